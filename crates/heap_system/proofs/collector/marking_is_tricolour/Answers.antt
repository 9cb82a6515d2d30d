use Rattle.heap_invariant.proofs.Lemmas.{build_of, coloured_refers, marked_is}
use Rattle.heap_system.specs.Pictures.{kept_state}
use Rattle.heap_system.proofs.invariant.InvariantHolds.{run_kept}
use Rattle.heap_system.proofs.step_rows.LawsOfParts.{laws_of}
use Rattle.heap_system.proofs.collector.marking_is_tricolour.Goals as goal

pub returns-clause-tricolour : goal.returns-clause-tricolour
returns-clause-tricolour _ c r is mark = (run_kept c is.traces (laws_of c) is.job is.turns r is.by_turns).rules.tricolour mark

pub returns-clause-solid : goal.returns-clause-solid
returns-clause-solid _ c r is mark = (run_kept c is.traces (laws_of c) is.job is.turns r is.by_turns).rules.solid mark

pub returns-clause-builds : goal.returns-clause-builds
returns-clause-builds _ c r is t b tl builds = build_of c (kept_state c r) (run_kept c is.traces (laws_of c) is.job is.turns r is.by_turns).names t b tl builds

pub returns-clause-built : goal.returns-clause-built
returns-clause-built _ c r is t o j b tl builds lo hi jl = coloured_refers c (kept_state c r) (run_kept c is.traces (laws_of c) is.job is.turns r is.by_turns).names t o j b tl builds lo hi jl

pub returns-clause-marked : goal.returns-clause-marked
returns-clause-marked _ c r is x dark = marked_is c (kept_state c r) (run_kept c is.traces (laws_of c) is.job is.turns r is.by_turns).names x dark
