-- What `clear` prints: a refused file has one text, and any other that of each query.
use Rattle.results.proofs.Read.{refused_alone, of_queries}
use Rattle.results.proofs.ClearedTextsLONGEST_RESULT.text.Goals as goal

pub returns-then-reading-ne0 : goal.returns-then-reading-ne0
returns-then-reading-ne0 c =
    refused_alone _ c.read-reading.ensures.value _ _ _ _ c.if-reading-ne0.true c.only.ensures

pub returns : goal.returns
returns c =
    of_queries _ c.read-reading.ensures.value _ _ _ _ c.if-reading-ne0.false c.asked.ensures c.one_each.ensures
