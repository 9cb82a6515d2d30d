use Rattle.std.proofs.Common.{true, ◌≡◌, ◌+◌, ◌≤◌, ap, sym, ◌∙◌, subst, arith, length}
use Rattle.never_heap.specs.Bounds.{IsCommandInBounds}
use Rattle.never_heap.specs.RightWork.{units_owed}
use Rattle.rate_plan.proofs.Rates.{rate_low}
use Rattle.heap_system.specs.Lives.{objects_of, most_units, most_objects}
use Rattle.heap_system.specs.Locals.{LocalState, is_rest, works}
use Rattle.heap_system.proofs.accounting.OwedAndPaid.{view_of, begun_local, begun_with, begun_long, begun_price}
use Rattle.heap_system.proofs.local.Local.begin.Goals as goal

pub invariant_of-self : goal.invariant_of-self
invariant_of-self c =
    let l : LocalState = view_of c.self.inside in
    let is : l ≡ c.args.self.now = c.self.view_is in
    let one : length l.trace ≡ 1 = subst (λ (x : LocalState). length x.trace ≡ 1) (sym is) c.requires.one in
    let long : c.units_of_one-self-inside.result ≡ l.before + works l.log = c.units_of_one-self-inside.ensures ∙ ap (λ (x : LocalState). x.before + works x.log) (sym is) in (
      begun_with l c.args.command _ _
          (begun_local l c.args.command c.self.invariant.0 (subst (λ (x : LocalState). is_rest x.part ≡ true) (sym is) c.requires.rest) (subst (λ (x : LocalState). x.spent ≡ 0) (sym is) c.requires.settled)
          (subst (λ (x : LocalState). IsCommandInBounds x.config c.args.command) (sym is) c.requires.bounds) (subst (λ (x : LocalState). x.before + works x.log + units_owed x.config.width x.rate c.args.command ≤ most_units) (sym is) c.requires.units) (subst (λ (x : LocalState). x.made + objects_of c.args.command ≤ most_objects) (sym is) c.requires.objects))
          one long c.clear.ensures.items,
      c.self.invariant.1,
      c.self.invariant.2,
      begun_long c.self.inside.trace.items c.args.command _ one (omega (arith, c.self.invariant.3, c.clear.ensures.capacity)),
      begun_price l c.args.command _ _ one c.clear.ensures.items c.price_of-price.ensures.price,
    )

pub price_of-price-requires-clause-rate : goal.price_of-price-requires-clause-rate
price_of-price-requires-clause-rate c =
    let k = c.self.invariant.0 in rate_low c.self.inside.config c.self.inside.rate k.bounds k.plan k.rate
