-- A thread that builds, while every other thread holds nothing, finds a Free block in some list.
use Rattle.std.proofs.Common.{mod-eq_of_lt, ◌≡◌, ℕ, zero, suc, ◌+◌, ◌-◌, ◌*◌, ◌<◌, ◌≤◌, ◌&&◌, true, List, [], ◌∷◌, length, sym, ap, ◌∙◌, subst, arith, inl, inr}
use Rattle.std.proofs.lemmas.Bool.{cases_eq, cases_lt}
use Rattle.std.proofs.lemmas.Nat.{mod-mul-add}
use Rattle.block_store.specs.Colours.{is_free, link}
use Rattle.block_store.specs.Counts.{times, total}
use Rattle.block_store.specs.Heaps.{Heap}
use Rattle.block_store.specs.Phases.{bit}
use Rattle.block_store.specs.Places.{Extent, FreeList, ColourOf, is_block}
use Rattle.block_store.proofs.Lemmas.{all_times, total_none, total_part, total_plus, total_same}
use Rattle.block_store.proofs.Indexes.{block_is}
use Rattle.heap_machine.specs.Chains.{Chain}
use Rattle.heap_machine.specs.FreeBlocks.{FreeInHand, no_free, count_free, FreeKept}
use Rattle.heap_machine.proofs.Lemmas.{Chain-zero}
use Rattle.build_steps.specs.Rows.{list_of}

-- a sum of which one part is left
total_one : (n : ℕ) (f : ℕ → ℕ) (t : ℕ) → t < n → ((u : ℕ) → u < n → (t ≡ u → ⊥) → f u ≡ 0) → total n f ≡ f t
total_one zero f t tl none = absurd (omega arith)
total_one (suc n) f t tl none = elim (cases_eq t n) [
  | inl e ↦
      let below : total n f ≡ 0 = total_none n f (λ u ul. none u (omega arith) (λ q. omega (arith, q, e, ul))) in
      let same : f t ≡ f n = ap f e in omega arith
  | inr ne ↦
      let below = total_one n f t (omega arith) (λ u ul. none u (omega arith)) in
      let here : f n ≡ 0 = none n (omega arith) ne in omega arith
]

-- each list is one of those that are taken
each_list : (t n v : ℕ) → t < n → v < n → (u : ℕ) × (u < n) × (list_of t n u ≡ v)
unfolding list_of
each_list t n v low vlow = elim (cases_lt v t) [
  | inl below ↦
      let sum : t + (v + n - t) ≡ 1 * n + v = omega arith in
      (v + n - t, omega arith, rw sum (mod-mul-add 1 n v vlow))
  | inr above ↦
      let sum : t + (v - t) ≡ v = omega arith in
      (v - t, omega arith, rw sum (mod-eq_of_lt vlow))
]

pub all_lists : (h : Heap) (t n : ℕ) → t < n → ((u : ℕ) → u < n → h (FreeList (list_of t n u)) ≡ 0) → (v : ℕ) → v < n → h (FreeList v) ≡ 0
all_lists h t n low none v vlow = (let u = each_list t n v low vlow in subst (λ l. h (FreeList l) ≡ 0) u.2 (none u.0 u.1))

-- a list of one block
pub chain_of_one : (c : ℕ → ℕ) (a : ℕ) (xs : List ℕ) → Chain c a xs → link (c a) ≡ 0 → length xs ≤ 1
chain_of_one c a [] chain last = omega arith
chain_of_one c a (x ∷ xs) chain last =
    let rest : Chain c 0 xs = subst (λ v. Chain c v xs) (ap (λ v. link (c v)) (sym chain.0) ∙ last) chain.2 in
    let none : length xs ≡ 0 = ap length (Chain-zero c xs rest) in
    omega (arith, none)

pub chain_of_none : (c : ℕ → ℕ) (a : ℕ) (xs : List ℕ) → Chain c a xs → a ≡ 0 → length xs ≡ 0
chain_of_none c a xs chain none = ap length (Chain-zero c xs (subst (λ v. Chain c v xs) none chain))

module _ (e : Extent) (h : Heap) (fs : ℕ → FreeInHand) (k : FreeKept e h fs) (t : ℕ) (tl : t < e.threads)
    (others : (u : ℕ) → u < e.threads → (t ≡ u → ⊥) → fs u ≡ no_free)
    (dry : (u : ℕ) → u < e.threads → h (FreeList u) ≡ 0) where
  abbrev colour : ℕ → ℕ
  colour x = h (ColourOf x)

  in_lists : (x : ℕ) → total e.threads (λ u. times x (k.lists u)) ≡ 0
  in_lists x = total_none e.threads (λ u. times x (k.lists u))
      (λ u ul. ap (times x) (Chain-zero colour (k.lists u) (subst (λ v. Chain colour v (k.lists u)) (dry u ul) (k.list_chain u ul))))

  in_private_lists : (x : ℕ) → total e.threads (λ u. times x (k.private_lists u)) ≡ times x (k.private_lists t)
  in_private_lists x = total_one e.threads (λ u. times x (k.private_lists u)) t tl
      (λ u ul ne. ap (times x) (Chain-zero colour (k.private_lists u) (subst (λ v. Chain colour v (k.private_lists u)) (ap (λ (w : FreeInHand). w.list) (others u ul ne)) (k.private_chain u ul))))

  are_held : (x : ℕ) → total e.threads (λ u. times x (fs u).held) ≡ times x (fs t).held
  are_held x = total_one e.threads (λ u. times x (fs u).held) t tl (λ u ul ne. ap (λ (w : FreeInHand). times x w.held) (others u ul ne))

  free_here : (x : ℕ) → x < e.blocks → bit (is_free (colour (suc x))) ≡ times (suc x) (k.private_lists t) + times (suc x) (fs t).held
  free_here x xl =
      let block : is_block e (suc x) ≡ true = block_is e (suc x) (omega arith) (omega arith) in
      let free : bit (is_block e (suc x) && is_free (colour (suc x))) ≡ bit (is_free (colour (suc x))) = ap (λ b. bit (b && is_free (colour (suc x)))) block in
      omega (arith, k.once (suc x), in_lists (suc x), in_private_lists (suc x), are_held (suc x), free)

  -- so there are no more Free blocks than it has in hand and holds
  all_here : count_free e colour ≤ length (k.private_lists t) + length (fs t).held
  all_here = omega (
    arith,
    total_same e.blocks (λ x. bit (is_free (colour (suc x)))) (λ x. times (suc x) (k.private_lists t) + times (suc x) (fs t).held) free_here,
    total_plus e.blocks (λ x. times (suc x) (k.private_lists t)) (λ x. times (suc x) (fs t).held),
    all_times e.blocks (k.private_lists t),
    all_times e.blocks (fs t).held,
  )

  -- and fewer than it has reserved there are not
  pub never_dry : length (k.private_lists t) + length (fs t).held < (fs t).reserved → ⊥
  never_dry few = omega (arith, few, all_here, k.credit, total_part e.threads (λ u. (fs u).reserved) t tl)
