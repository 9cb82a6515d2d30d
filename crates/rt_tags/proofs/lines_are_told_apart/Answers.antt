use Rattle.array_scripts.specs.Kinds.{language, IsHeader, Fits}
use Rattle.array_scripts.proofs.scripts.ScriptOrBadLine.{told_apart, never_both, scripts_are_one}
use Rattle.rt_tags.specs.Lines.{tag_kind}
use Rattle.rt_tags.proofs.LineLaws.{tag_reads}
use Rattle.rt_tags.proofs.lines_are_told_apart.Goals as goal

pub returns-clause-either : goal.returns-clause-either
returns-clause-either c = told_apart (language tag_kind) (IsHeader tag_kind) (Fits tag_kind) tag_reads

pub returns-clause-apart : goal.returns-clause-apart
returns-clause-apart c = never_both (language tag_kind) (IsHeader tag_kind) (Fits tag_kind) tag_reads

pub returns-clause-one : goal.returns-clause-one
returns-clause-one c = scripts_are_one (language tag_kind) (IsHeader tag_kind) (Fits tag_kind) tag_reads
