-- What the steps of a reading gave.
use Rattle.std.proofs.Common.{◌≡◌, Option, Some, None, refl, Result, Ok}
use Rattle.trace_text.specs.Reading.{◌>>=◌}
use Rattle.trace_text.specs.declared.trace_faults.Why.{Why}

pub record Through {A B : Type 0} (o : Option A) (f : A → Option B) (y : B) : Type 0 where
  pub at : A
  pub first : o ≡ Some at
  pub second : f at ≡ Some y

-- a step that gave something
pub bind_some : {A B : Type 0} (o : Option A) (f : A → Option B) (y : B) → (o >>= f) ≡ Some y
    → Through o f y
bind_some None f y e = absurd cc
bind_some (Some x) f y e = record { at = x; first = refl; second = e }

-- the same for what follows from the steps
pub bind_then : {A B P : Type 0} (o : Option A) (f : A → Option B) (y : B) → (o >>= f) ≡ Some y
    → ((x : A) → o ≡ Some x → f x ≡ Some y → P) → P
bind_then None f y e go = absurd cc
bind_then (Some x) f y e go = go x refl e

pub same_Ok : {A : Type 0} (x y : A) → ◌≡◌ {A = Result A Why} (Ok x) (Ok y) → x ≡ y
same_Ok x y e = cc
