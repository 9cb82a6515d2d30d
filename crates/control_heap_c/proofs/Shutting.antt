-- A handle is closed, or keeps what it has.
use Rattle.std.proofs.Common.{◌≡◌, ℕ, zero, suc, refl, sym, ◌∙◌, subst}
use Rattle.std.specs.Prelude.{Option, Some, None}
use Rattle.control_heap_c.specs.declared.owned.Owned.{Owned}
use Rattle.control_heap_c.specs.Shared.{IsLeft, IsShut, shut_status}

pub had_none : (old new : Option Owned) → old ≡ None → new ≡ None → IsShut old 1 new
had_none old new e n = subst (λ (o : Option Owned). IsShut o 1 new) (sym e) (refl, n)

pub dropped : (x : Owned) (old new : Option Owned) (s : ℕ) → old ≡ Some x → s ≡ shut_status (Some x) → s ≡ 0 → new ≡ None → IsShut old s new
dropped x old new s is e z n =
    subst (λ (o : Option Owned). IsShut o s new) (sym is)
    (e, subst (λ (k : ℕ). IsLeft k (Some x) new) (sym (sym e ∙ z)) n)

left : (k : ℕ) (old new : Option Owned) → ¬ (k ≡ 0) → new ≡ old → IsLeft k old new
left zero old new some n = absurd (some refl)
left (suc k) old new some n = n

pub kept : (x : Owned) (old new : Option Owned) (s : ℕ) → old ≡ Some x → s ≡ shut_status (Some x) → ¬ (s ≡ 0) → new ≡ Some x → IsShut old s new
kept x old new s is e some n =
    subst (λ (o : Option Owned). IsShut o s new) (sym is)
    (e, left (shut_status (Some x)) (Some x) new (λ z. some (e ∙ z)) n)
