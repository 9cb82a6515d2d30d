use Rattle.std.proofs.Common.{refl, arith}
use Rattle.heap_structures.proofs.cell_arrays.Chained.{from_err}
use Rattle.heap_structures.proofs.cells.made.Goals as goal

pub returns-clause-opens : goal.returns-clause-opens
returns-clause-opens c s g has may =
    let range = c.in_ok-array.ensures.range in
    c.in_ok-array.ensures.opens s g c.args.spare has
    (c.in_ok-array.ensures.grown s g has may) _ refl refl refl (record {
      size = range.1;
      base = range.0;
      spare = omega (arith, c.if-spare-ge-REGISTERS.false);
      apart = c.if-spare-base.false;
    })

pub returns-in_err-array-clause-opens : goal.returns-in_err-array-clause-opens
returns-in_err-array-clause-opens c s g has may =
    from_err c.from_residual.result c.in_err-array.field-0.0 _ _ c.from_residual.ensures.1
    (c.in_err-array.ensures.opens s g c.args.spare has
    (c.in_err-array.ensures.grown s g has may))
