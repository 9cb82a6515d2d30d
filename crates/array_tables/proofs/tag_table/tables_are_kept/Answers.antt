use Rattle.array_tables.proofs.tag_table.TableApplication.{tables_are_kept}
use Rattle.array_tables.proofs.tag_table.tables_are_kept.Goals as goal

pub returns : goal.returns
returns c = tables_are_kept
