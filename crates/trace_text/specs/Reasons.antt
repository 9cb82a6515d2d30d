-- How reasons are printed.
use Rattle.std.specs.Prelude.{ℕ, List, codes}
use Rattle.trace_text.specs.declared.trace_faults.Why.{Why}
use Rattle.trace_text.specs.declared.trace_faults.Why.TheVariants.{Header, Word, Number, Count, Register, Size, Order, End}

abbrev pub reason_text : Why → List ℕ
reason_text Header = codes "header"
reason_text Word = codes "word"
reason_text Number = codes "number"
reason_text Count = codes "count"
reason_text Register = codes "register"
reason_text Size = codes "size"
reason_text Order = codes "order"
reason_text End = codes "end"
