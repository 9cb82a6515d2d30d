-- The blocks of marked objects.
use Rattle.std.proofs.Common.{ℕ, zero, suc, ◌+◌, ◌≡◌, ◌<◌, ◌≤◌, Bool, true, false, ◌&&◌, cond, eqb, leb, List, [], ◌∷◌, length, get_or, take, ap, sym, ◌∙◌, refl, arith, eq-eqb, ne_eqb}
use Rattle.std.specs.List.{sum_by, All}
use Rattle.std.proofs.lemmas.Bool.{le-leb}
use Rattle.std.proofs.lemmas.List.{take_all}
use Rattle.std.proofs.lemmas.List.Elements.{All-append}
use Rattle.std.proofs.lemmas.List.Sums.{sum_by-cons}
use Rattle.block_store.specs.declared.Name.{Name}
use Rattle.block_store.specs.declared.Width.{Width}
use Rattle.block_store.specs.Registers.{registers_end}
use Rattle.never_heap.specs.Graphs.{Graph, object_of, has_name, count_of, shared_name}
use Rattle.never_heap.specs.LiveBlocks.{object_blocks, live_of, live_blocks}
use Rattle.never_heap.specs.Marks.{Marked, has_mark}
use Rattle.never_heap.specs.Reach.{names, names_below, thread_names, reachable}
use Rattle.never_heap.proofs.NameLists.{name_of_place, length_of_thread}

-- the blocks of the marked objects among some names
abbrev pub marked_blocks : Width → Graph → Marked → List Name → ℕ
marked_blocks w g m xs =
    sum_by (λ (a : Name). cond (has_mark m a) (object_blocks w (object_of g a)) 0) xs

-- sums of what is the same at each element
pub sum_same : {X : Type 0} (f h : X → ℕ) (xs : List X) → All (λ x. f x ≡ h x) xs
    → sum_by f xs ≡ sum_by h xs
sum_same f h [] all = refl
sum_same f h (x ∷ xs) all =
    sum_by-cons f x xs ∙ ap (λ k. k + sum_by f xs) (all 0 x (omega arith))
    ∙ ap (λ k. h x + k) (sum_same f h xs (λ k d l. all (suc k) d (omega arith)))
    ∙ sym (sum_by-cons h x xs)

-- the names of a thread are those of its objects
pub has_serial : (g : Graph) (t s : ℕ) → s < count_of g t
    → has_name g (record { thread = t; serial = s + 1 }) ≡ true
has_serial g t s l = ap (λ b. cond b (eqb t (length g.mutators)) (leb (s + 1) (count_of g t)))
    (ne_eqb (s + 1) 0 (λ e. absurd (omega arith))) ∙ le-leb (s + 1) (count_of g t) (omega arith)

-- each name of the list is the name of an object
pub all_named : (g : Graph) (u : ℕ) → All (λ (a : Name). has_name g a ≡ true) (names_below g u)
all_named g zero = λ k d l. let first : k ≡ 0 = omega arith in
    ap (λ j. has_name g (get_or (shared_name (length g.mutators) ∷ []) j d)) first
    ∙ eq-eqb (length g.mutators) (length g.mutators) refl
all_named g (suc u) = All-append (λ (a : Name). has_name g a ≡ true) (names_below g u)
    (thread_names u (count_of g u)) (all_named g u)
    (λ k d l. let few : k < count_of g u = omega (arith, length_of_thread u (count_of g u)) in
    ap (has_name g) (name_of_place u (count_of g u) k d few) ∙ has_serial g u k few)

and_yes : (b : Bool) → (b && true) ≡ b
and_yes true = refl
and_yes false = refl

marked_same : (r n m : Bool) (k : ℕ) → n ≡ true → m ≡ (r && n) → cond m k 0 ≡ cond r k 0
marked_same r n m k h e = ap (λ b. cond b k 0) (e ∙ ap (λ b. r && b) h ∙ and_yes r)

-- where the reachable objects are marked, their blocks are the live blocks
pub live_of_marked : (w : Width) (g : Graph) (m : Marked) (xs : List Name) (i k : ℕ)
    → xs ≡ names g → length xs ≤ i
    → ((b : Name) → has_mark m b ≡ (reachable g b && has_name g b))
    → k ≡ registers_end w (length g.mutators) + marked_blocks w g m (take i xs)
    → k ≡ live_blocks w g
unfolding live_blocks
live_of_marked w g m xs i k e l marks sum =
    let of : Name → ℕ = λ a. object_blocks w (object_of g a) in
    let base : ℕ = registers_end w (length g.mutators) in
    sum ∙ ap (λ ys. base + marked_blocks w g m ys) (take_all i xs l ∙ e)
    ∙ ap (λ s. base + s) (sum_same (λ (a : Name). cond (has_mark m a) (of a) 0) (live_of w g)
    (names g)
    (λ j d h. let a : Name = get_or (names g) j d in
    marked_same (reachable g a) (has_name g a) (has_mark m a) (of a)
    (all_named g (length g.mutators) j d h) (marks a)))
