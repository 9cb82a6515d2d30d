-- What is left of a heap's life, by the rate of its thread.
use Rattle.std.proofs.Common.{◌≡◌, ℕ, ◌+◌, ◌<◌, ◌≤◌, Bool, IsTrue, sym, ap, subst, arith}
use Rattle.never_heap.specs.declared.Command.{Command}
use Rattle.never_heap.specs.Bounds.{IsCommandInBounds}
use Rattle.never_heap.specs.RightWork.{units_owed}
use Rattle.heap_system.specs.Lives.{objects_of, most_commands, most_units, most_objects}
use Rattle.heap_system.specs.Machines.{Run}
use Rattle.rate_plan.proofs.Rates.{one_rate}
use Rattle.control_heap.specs.Controls.{ControlOf, HasLeft, Stands, asked, units}
use Rattle.control_heap.proofs.CommandBound.{config_is, rate_is}
use Rattle.control_heap.proofs.HeapAsRun.{kept_of, low}

module _ {M : Type 0} (h : ControlOf M) (r : Run) (st : Stands h r) where
  -- the units made are within the life
  few_made : units h ≤ most_units
  few_made =
      let kept = (kept_of h.config st.single r st.run.after).locals 0 (low h.config st.single) in
      omega (arith, kept.fits.life, st.units)

  pub made_fits : (now : ControlOf M) → h ≡ now → (owes : ℕ) → owes ≡ 0 → units now + owes ≤ most_units
  made_fits now same owes none = subst (λ (x : ControlOf M). units x + owes ≤ most_units) same (omega (arith, few_made, none))

module _ {M : Type 0} (h : ControlOf M) (r : Run) (st : Stands h r) (k : Command) where
  pub thread_fits : (now : ControlOf M) → h ≡ now → IsCommandInBounds now.config k → IsCommandInBounds h.thread.config k
  thread_fits now same is = subst (λ c. IsCommandInBounds c k) (sym (config_is h r st)) (subst (λ (x : ControlOf M). IsCommandInBounds x.config k) (sym same) is)

  -- what the thread says that the command owes
  owed_is : units_owed h.thread.config.width h.thread.rate k ≡ units_owed h.config.width h.thread.rate k
  owed_is = ap (λ c. units_owed c.width h.thread.rate k) (config_is h r st)

  -- where the other two counts have room, there is room where the units fit, as this test tells
  left_is : (owes : ℕ) → owes ≡ units_owed h.thread.config.width h.thread.rate k → asked h < most_commands → h.objects + objects_of k ≤ most_objects
      → (b : Bool) → (IsTrue b → units h + owes ≤ most_units) × (units h + owes ≤ most_units → IsTrue b)
      → (IsTrue b → HasLeft h k) × (HasLeft h k → IsTrue b)
  left_is owes is few objects b fits = (
    λ t. (few, objects, λ rate planned. let low = fits.0 t in let e = ap (λ p. units_owed h.config.width p k) (one_rate h.config h.thread.rate rate (rate_is h r st) planned) in omega (arith, low, is, owed_is, e)),
    λ left. fits.1 (let low = left.2 h.thread.rate (rate_is h r st) in omega (arith, low, is, owed_is)),
  )

  pub left_now : (now : ControlOf M) → h ≡ now → (owes : ℕ) → owes ≡ units_owed h.thread.config.width h.thread.rate k → asked h < most_commands → h.objects + objects_of k ≤ most_objects
      → (b : Bool) → (IsTrue b → units now + owes ≤ most_units) × (units now + owes ≤ most_units → IsTrue b)
      → (IsTrue b → HasLeft now k) × (HasLeft now k → IsTrue b)
  left_now now same owes is few objects b fits =
      subst (λ (x : ControlOf M). (IsTrue b → HasLeft x k) × (HasLeft x k → IsTrue b)) same
      (left_is owes is few objects b
      (subst (λ (x : ControlOf M). (IsTrue b → units x + owes ≤ most_units) × (units x + owes ≤ most_units → IsTrue b)) (sym same) fits))
