-- Reading one after the other, as a loop does.
use Rattle.std.proofs.Common.{◌≡◌, ℕ, suc, ◌-◌, ◌+◌, ◌≤◌, ◌<◌, List, [], ◌∷◌, ◌++◌, Result, Ok, Err, refl, sym, ap, ◌∙◌, append_assoc, arith}
use Rattle.std.proofs.lemmas.List.{append-nil}
use Rattle.saved_heap.specs.declared.heap_pictures.faults.SaveFault.{SaveFault}
use Rattle.saved_heap.specs.declared.heap_pictures.faults.ReadError.{ReadError}
use Rattle.saved_heap.specs.declared.heap_pictures.faults.ReadError.TheVariants as errors
use Rattle.saved_heap.specs.heap_pictures.Reading.{◌>>=◌, Fails}

-- what was read before, and what is still read
abbrev pub with_front : {A : Type 0} → List A → Result (List A × List ℕ) SaveFault → Result (List A × List ℕ) SaveFault
with_front front read = read >>= λ x. Ok (front ++ x.0, x.1)

module _ {A : Type 0} (one_at : List ℕ → Result (A × List ℕ) SaveFault) (some_at : ℕ → List ℕ → Result (List A × List ℕ) SaveFault)
    (none : (bytes : List ℕ) → some_at 0 bytes ≡ Ok ([], bytes))
    (more : (n : ℕ) (bytes : List ℕ) → some_at (suc n) bytes ≡ (one_at bytes >>= λ first. some_at n first.1 >>= λ others. Ok (first.0 ∷ others.0, others.1))) where
  regroup : (front : List A) (n : A) (read : Result (List A × List ℕ) SaveFault) → with_front front (read >>= λ x. Ok (n ∷ x.0, x.1)) ≡ with_front (front ++ n ∷ []) read
  regroup front n (Ok x) = ap (λ (ns : List A). Ok (ns, x.1)) (sym (append_assoc front (n ∷ []) x.0))
  regroup front n (Err f) = refl

  step : (count i : ℕ) (bytes : List ℕ) → i < count → some_at (count - i) bytes ≡ (one_at bytes >>= λ first. some_at (count - (i + 1)) first.1 >>= λ others. Ok (first.0 ∷ others.0, others.1))
  step count i bytes lt =
      let k : count - i ≡ suc (count - (i + 1)) = omega (arith, lt) in
      ap (λ j. some_at j bytes) k ∙ more (count - (i + 1)) bytes

  pub goes_on : (front : List A) (count i : ℕ) (bytes : List ℕ) (n : A) (after : List ℕ) (total : Result (List A × List ℕ) SaveFault) → i < count → one_at bytes ≡ Ok (n, after)
      → with_front front (some_at (count - i) bytes) ≡ total → with_front (front ++ n ∷ []) (some_at (count - (i + 1)) after) ≡ total
  goes_on front count i bytes n after total lt h so_far =
      sym (regroup front n (some_at (count - (i + 1)) after))
      ∙ sym (ap (with_front front) (step count i bytes lt ∙ ap (λ r. r >>= λ first. some_at (count - (i + 1)) first.1 >>= λ others. Ok (first.0 ∷ others.0, others.1)) h))
      ∙ so_far

  pub ends : (e : ReadError) (front : List A) (count i : ℕ) (bytes : List ℕ) (total : Result (List A × List ℕ) SaveFault) → i < count → Fails e (one_at bytes)
      → with_front front (some_at (count - i) bytes) ≡ total → Fails e total
  ends errors.Memory front count i bytes total lt h so_far = tt
  ends (errors.Fault f) front count i bytes total lt h so_far =
      sym so_far ∙ ap (with_front front) (step count i bytes lt ∙ ap (λ r. r >>= λ first. some_at (count - (i + 1)) first.1 >>= λ others. Ok (first.0 ∷ others.0, others.1)) h)

  pub is_done : (front : List A) (count i : ℕ) (bytes : List ℕ) (total : Result (List A × List ℕ) SaveFault) → count ≤ i → with_front front (some_at (count - i) bytes) ≡ total → total ≡ Ok (front, bytes)
  is_done front count i bytes total le so_far =
      let k : count - i ≡ 0 = omega (arith, le) in
      sym so_far ∙ ap (with_front front) (ap (λ j. some_at j bytes) k ∙ none bytes) ∙ ap (λ (ns : List A). Ok (ns, bytes)) (append-nil front)
