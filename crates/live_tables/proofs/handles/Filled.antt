-- The slot of a handle that was made, and the objects of a request.
use Rattle.std.proofs.Common.{◌≡◌, ℕ, ◌<◌, ◌≤◌, inl, inr, cond, Option, Some, None, List, [], ◌∷◌, length, get_or, set, eq-eqb, ne_eqb, sym, refl, ap, ◌∙◌, arith}
use Rattle.std.proofs.lemmas.Bool.{cases_eq}
use Rattle.std.proofs.lemmas.Grind.{get_or-set_at}
use Rattle.std.proofs.lemmas.List.{get_or-set_other}
use Rattle.block_store.specs.declared.Width.TheVariants.{Eight}
use Rattle.live_tables.specs.rows.Life.{MakeObjects}
use Rattle.live_tables.specs.declared.handles.request.HandleRequest.{HandleRequest}
use Rattle.live_tables.specs.declared.handles.request.HandleRequest.TheVariants as asks
use Rattle.live_tables.specs.handles.Kept.{objects_by}
use Rattle.live_tables.specs.handles.Live.{HandleWorkerState, commands_of, deed_of}
use Rattle.live_tables.specs.handles.Makes.{slot_after}

pub set_there : (slots : List (Option ℕ)) (h i g : ℕ) → h < length slots
    → get_or (set slots h (Some i)) g None ≡ slot_after (λ k. get_or slots k None) h i g
set_there slots h i g low = elim (cases_eq g h) [
  | inl e ↦ get_or-set_at slots h g (Some i) None e low
      ∙ sym (ap (λ b. cond b (Some i) (get_or slots g None)) (eq-eqb h g (sym e)))
  | inr ne ↦ get_or-set_other slots h g (Some i) None ne
      ∙ sym (ap (λ b. cond b (Some i) (get_or slots g None)) (ne_eqb h g (λ e. ne (sym e))))
]

pub made_of : (w : HandleWorkerState) (request : HandleRequest)
    → MakeObjects Eight (objects_by request) (commands_of (deed_of w request ∷ []))
made_of w (asks.Make h i x) = record { objects = refl; units = λ rate. omega arith }
made_of w (asks.See h) = record { objects = refl; units = λ rate. omega arith }
made_of w (asks.Release h) = record { objects = refl; units = λ rate. omega arith }
made_of w (asks.Take i) = record { objects = refl; units = λ rate. omega arith }
made_of w (asks.Evict i) = record { objects = refl; units = λ rate. omega arith }

pub few_objects : (request : HandleRequest) → objects_by request ≤ 2
few_objects (asks.Make h i x) = omega arith
few_objects (asks.See h) = omega arith
few_objects (asks.Release h) = omega arith
few_objects (asks.Take i) = omega arith
few_objects (asks.Evict i) = omega arith
