-- What a script of handles holds: as many threads as its header says, and operations that can
-- are.
use Rattle.std.proofs.Common.{ℕ, zero, suc, ◌<◌, List, [], ◌∷◌, ◌++◌, slice_index_or, arith}
use Rattle.std.specs.List.{AllByRecursion}
use Rattle.array_scripts.specs.declared.header.Header.{Header}
use Rattle.array_scripts.specs.Kinds.{Tokens, FitBehind}
use Rattle.array_scripts.proofs.ScriptSizes.{few_ops, each_thread, fit_at}
use Rattle.array_tables.specs.declared.handle_table.operation.Operation.{Operation}
use Rattle.array_tables.specs.declared.handle_table.operation.Operation.TheVariants.{Make, See, Drop, Take, Evict}
use Rattle.array_tables.specs.handle_table.Handles.{AreInTurn, AreNamed, CanStand, handle_of, IsScriptInRange}
use Rattle.rt_handles.specs.Lines.{handle_kind, IsHandleScript}

pub each_stands : (h : Header) (before ops : List Operation) → FitBehind handle_kind h before ops
    → AreInTurn h.places before ops
each_stands h before [] f = tt
each_stands h before (op ∷ ops) f = (f.0.1, each_stands h (before ++ op ∷ []) ops f.1)

-- each handle is one of eight
pub named : (slots : ℕ) (before ops : List Operation) → AreInTurn slots before ops → AreNamed ops
named slots before [] a k d low = absurd (omega arith)
named slots before (op ∷ ops) a zero d low = one op a.0
  where
    one : (op : Operation) → CanStand slots before op → handle_of op < 8
    one (Make g i x) s = s.0
    one (See g i) s = s.0
    one (Drop g i) s = s.0
    one (Take i) s = omega arith
    one (Evict i) s = omega arith
named slots before (op ∷ ops) a (suc k) d low =
    named slots (before ++ op ∷ []) ops a.1 k d (omega (arith, low))

module _ (lines : List Tokens) (h : Header) (scripts : List (List Operation))
    (is : IsHandleScript lines h scripts) where
  pub in_range : AllByRecursion (IsScriptInRange h.places) scripts
  in_range = each_thread handle_kind h lines scripts is (IsScriptInRange h.places)
      (λ ops f. record { few = few_ops handle_kind h ops f; each = each_stands h [] ops f })

  pub each_range : (t : ℕ) → IsScriptInRange h.places (slice_index_or scripts t [])
  each_range t =
      let fit = fit_at handle_kind h lines scripts is t in
      record { few = few_ops handle_kind h _ fit; each = each_stands h [] _ fit }
