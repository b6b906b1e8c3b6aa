-- The claim holds.
use Rattle.engine.specs.Laws.Few.{few_slim, few_slim_of, list_has_room, never_eight}
use Rattle.threshold.specs.Laws.Taken.{hundred, decisions_are, rules_are}
use Rattle.threshold.specs.Laws.Holds.{holds_iff}
use Rattle.threshold.specs.Laws.Reached.{slim_eight, most_slim_lem, short_list}
use Rattle.longest.specs.Claim.{Longest}
use Rattle.printing.specs.Laws.Longest.{reads}

pub longest : Longest
longest = record {
  most = few_slim;
  most_of = few_slim_of;
  never_eight = never_eight;
  listed = list_has_room;
  reads = reads;
  decisions = (decisions_are, hundred);
  rules = rules_are;
  decides = holds_iff;
  eights = slim_eight;
  many = most_slim_lem;
  short = short_list;
}
