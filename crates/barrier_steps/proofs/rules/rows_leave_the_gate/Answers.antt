use Rattle.barrier_steps.proofs.PhaseRulesKept.{field_phase, field_cursor, row_grey, row_found, row_claims}
use Rattle.barrier_steps.proofs.rules.rows_leave_the_gate.Goals as goal

pub returns : goal.returns
returns c = record {
  phase = field_phase;
  cursor = field_cursor;
  grey = λ c h f x. row_grey c h x f.pass f.command f.row;
  scans = λ c f. row_found c f.pass f.command f.row;
  claims = λ c f. row_claims _ f.pass f.row;
}
