use Rattle.std.proofs.Common.{false, ◌&&◌, sym, ap, ◌∙◌}
use Rattle.heap_system.specs.Locals.{LocalState, command_of, is_done, is_rest}
use Rattle.heap_system.specs.Parts.{Part}
use Rattle.heap_system.proofs.local.Local.begin_lone.Goals as goal

pub begin-requires : goal.begin-requires
begin-requires c = record {
  one = c.requires.one;
  rest = ap is_rest c.requires.rest;
  settled = c.requires.settled;
  bounds = c.requires.bounds;
  units = c.requires.units;
  objects = c.requires.objects;
}

pub returns-clause-rest : goal.returns-clause-rest
returns-clause-rest c = ap (λ (l : LocalState). l.part) c.begin.ensures ∙ c.requires.rest

pub returns-clause-open : goal.returns-clause-open
returns-clause-open c = ap is_done c.begin.ensures ∙ ap (λ (p : Part). is_rest p && false) c.requires.rest

pub returns-clause-alone : goal.returns-clause-alone
returns-clause-alone c = ap (λ (l : LocalState). l.config.threads) c.begin.ensures ∙ c.requires.alone

pub returns-clause-command : goal.returns-clause-command
returns-clause-command c = ap command_of (sym c.begin.ensures)
