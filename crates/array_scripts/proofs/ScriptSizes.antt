-- What a script holds: as many threads as its header says, each with no more operations than it may
-- have.
use Rattle.std.proofs.Common.{◌≡◌, ℕ, zero, suc, ◌+◌, ◌≤◌, List, [], ◌∷◌, ◌++◌, length, length-append, slice_index_or, arith}
use Rattle.std.specs.List.{AllByRecursion}
use Rattle.array_scripts.specs.scripts.Scripts.{AllFit}
use Rattle.array_scripts.specs.declared.header.Header.{Header}
use Rattle.array_scripts.specs.Kinds.{Kind, Tokens, language, IsHeader, Fits, FitBehind, IsScriptIn}

module _ {Op : Type 0} (kind : Kind Op) (h : Header) where
  few_fit : (before ops : List Op) → length before ≤ kind.most → FitBehind kind h before ops
      → length before + length ops ≤ kind.most
  few_fit before [] low f = omega (arith, low)
  few_fit before (op ∷ ops) low f =
      let long : length (before ++ op ∷ []) ≡ length before + 1 = length-append before (op ∷ []) in
      let rest = few_fit (before ++ op ∷ []) ops (omega (arith, f.0.0, long)) f.1 in
      omega (arith, rest, long)

  pub few_ops : (ops : List Op) → FitBehind kind h [] ops → length ops ≤ kind.most
  few_ops ops f = omega (arith, few_fit [] ops (omega arith) f)

  -- what holds of operations that fit holds of each thread's
  all_from : (P : List Op → Type 0) → ((ops : List Op) → FitBehind kind h [] ops → P ops) → (t : ℕ)
      (scripts : List (List Op)) → AllFit (language kind) (IsHeader kind) (Fits kind) h t scripts
      → AllByRecursion P scripts
  all_from P each t [] f = tt
  all_from P each t (ops ∷ scripts) f = (each ops f.1, all_from P each (t + 1) scripts f.2)

  count_from : (t : ℕ) (scripts : List (List Op))
      → AllFit (language kind) (IsHeader kind) (Fits kind) h t scripts
      → t + length scripts ≡ h.threads
  count_from t [] f = omega (arith, f)
  count_from t (ops ∷ scripts) f = omega (arith, count_from (t + 1) scripts f.2)

  fit_from : (t : ℕ) (scripts : List (List Op))
      → AllFit (language kind) (IsHeader kind) (Fits kind) h t scripts → (u : ℕ)
      → FitBehind kind h [] (slice_index_or scripts u [])
  fit_from t [] f u = tt
  fit_from t (ops ∷ scripts) f zero = f.1
  fit_from t (ops ∷ scripts) f (suc u) = fit_from (t + 1) scripts f.2 u

  module _ (lines : List Tokens) (scripts : List (List Op)) (is : IsScriptIn kind lines h scripts)
    where
      pub each_thread : (P : List Op → Type 0) → ((ops : List Op) → FitBehind kind h [] ops → P ops)
          → AllByRecursion P scripts
      each_thread P each = all_from P each 0 scripts is.fit

      pub fit_at : (t : ℕ) → FitBehind kind h [] (slice_index_or scripts t [])
      fit_at = fit_from 0 scripts is.fit

      pub count : length scripts ≡ h.threads
      count = omega (arith, count_from 0 scripts is.fit)

      pub few_threads : length scripts ≤ 16
      few_threads = omega (arith, count, is.header.threads)
