use Rattle.array_scripts.specs.Kinds.{language, IsHeader, Fits}
use Rattle.array_scripts.proofs.scripts.ScriptOrBadLine.{told_apart, never_both, scripts_are_one}
use Rattle.rt_handles.specs.Lines.{handle_kind}
use Rattle.rt_handles.proofs.LineLaws.{handle_reads}
use Rattle.rt_handles.proofs.lines_are_told_apart.Goals as goal

pub returns-clause-either : goal.returns-clause-either
returns-clause-either c = told_apart (language handle_kind) (IsHeader handle_kind) (Fits handle_kind) handle_reads

pub returns-clause-apart : goal.returns-clause-apart
returns-clause-apart c = never_both (language handle_kind) (IsHeader handle_kind) (Fits handle_kind) handle_reads

pub returns-clause-one : goal.returns-clause-one
returns-clause-one c = scripts_are_one (language handle_kind) (IsHeader handle_kind) (Fits handle_kind) handle_reads
