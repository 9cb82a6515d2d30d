use Rattle.std.proofs.Common.{rules, arith, codes, refl}
use Rattle.std.proofs.lemmas.Slice.Eq.{text_from_reads}
use Rattle.trace_text.proofs.reading.words.word_of.Goals as goal

pub returns-in-thread : goal.returns-in-thread
returns-in-thread c = rw (text_from_reads c.args.token.now (codes "thread") (omega arith)
    (search rules)) refl
