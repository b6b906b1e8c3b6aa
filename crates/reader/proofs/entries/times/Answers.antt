-- `reader::entries::times` meets its contract.
use Rattle.std.proofs.Common.{arith, length-take}
use Rattle.std.proofs.lemmas.List.{length-replicate}
use Rattle.reader.proofs.Filling.{filled_up}
use Rattle.reader.proofs.entries.times.Goals as goal

pub returns : goal.returns
returns g c = λ m k.
    filled_up m _ _ c.args.zero _ _ (rw (length-take, length-replicate) (omega (arith, c.requires.fits))) c.fill.auto.places (c.fill.ensures m k) c.in_ok-fill.was
