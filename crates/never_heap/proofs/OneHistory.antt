-- An order and its logs make at most one history.
use Rattle.std.proofs.Common.{ℕ, ◌≡◌, cond, length, arith, List, [], ◌∷◌, map, ap, sym, ◌∙◌, refl, inl, inr, eq-eqb, ne_eqb}
use Rattle.std.proofs.lemmas.Bool.{cases_eq}
use Rattle.never_heap.specs.declared.Entry.{Entry}
use Rattle.never_heap.specs.declared.Item.{Item}
use Rattle.never_heap.specs.declared.Item.TheVariants as items
use Rattle.never_heap.specs.Histories.{HistoryItem, Started, Did, part}
use Rattle.never_heap.specs.HistoryOfOrder.{item_of, IsHistoryOf}

abbrev first_or : {A : Type 0} → A → List A → A
first_or d [] = d
first_or d (x ∷ xs) = x

abbrev others : {A : Type 0} → List A → List A
others [] = []
others (x ∷ xs) = xs

abbrev thread_in : Item → ℕ
thread_in items.Start = 0
thread_in (items.Entry t) = t

abbrev tag : Item → ℕ
tag items.Start = 0
tag (items.Entry t) = 1

-- the part of an entry's own thread begins with it, and no other part has it
pub own_part : (e : Entry) (h : List HistoryItem) (t : ℕ) → e.thread ≡ t → part t (Did e ∷ h) ≡ e ∷ part t h
own_part e h t same = ap (λ b. cond b (e ∷ part t h) (part t h)) (eq-eqb e.thread t same)

pub other_part : (e : Entry) (h : List HistoryItem) (t : ℕ) → (e.thread ≡ t → ⊥)
    → part t (Did e ∷ h) ≡ part t h
other_part e h t differ = ap (λ b. cond b (e ∷ part t h) (part t h)) (ne_eqb e.thread t differ)

abbrev pub Parts : List HistoryItem → List HistoryItem → Type 0
Parts h k = (t : ℕ) → part t h ≡ part t k

heads : (e f : Entry) (h k : List HistoryItem) → e.thread ≡ f.thread
    → Parts (Did e ∷ h) (Did f ∷ k) → e ∷ part f.thread h ≡ f ∷ part f.thread k
heads e f h k same parts = sym (own_part e h f.thread same) ∙ parts f.thread ∙ own_part f k f.thread refl

tails : (e f : Entry) (h k : List HistoryItem) → e.thread ≡ f.thread
    → Parts (Did e ∷ h) (Did f ∷ k) → Parts h k
tails e f h k same parts t = elim (cases_eq f.thread t) [
  | inl is ↦ ap others (sym (own_part e h t (same ∙ is)) ∙ parts t ∙ own_part f k t is)
  | inr not ↦ sym (other_part e h t (λ is. not (sym same ∙ is))) ∙ parts t ∙ other_part f k t not
]

pub one_history : (h k : List HistoryItem) → map item_of h ≡ map item_of k → Parts h k → h ≡ k
one_history [] [] same parts = refl
one_history [] (x ∷ k) same parts =
    let no : length (map item_of []) ≡ length (map item_of (x ∷ k)) = ap length same in
    absurd (omega (arith, no))
one_history (x ∷ h) [] same parts =
    let no : length (map item_of (x ∷ h)) ≡ length (map item_of []) = ap length same in
    absurd (omega (arith, no))
one_history (Started ∷ h) (Started ∷ k) same parts =
    ap (λ z. Started ∷ z) (one_history h k (ap others same) parts)
one_history (Started ∷ h) (Did f ∷ k) same parts = let no : 0 ≡ 1 =
    ap (λ z. tag (first_or items.Start z)) same in absurd (omega (arith, no))
one_history (Did e ∷ h) (Started ∷ k) same parts = let no : 1 ≡ 0 =
    ap (λ z. tag (first_or items.Start z)) same in absurd (omega (arith, no))
one_history (Did e ∷ h) (Did f ∷ k) same parts =
    let thread : e.thread ≡ f.thread = ap (λ z. thread_in (first_or items.Start z)) same in
    let entry : e ≡ f = ap (λ z. first_or e z) (heads e f h k thread parts) in
    let rest : h ≡ k = one_history h k (ap others same) (tails e f h k thread parts) in
    ap (λ z. Did z ∷ h) entry ∙ ap (λ z. Did f ∷ z) rest

pub one_of : (order : List Item) (logs : List (List Entry)) (h k : List HistoryItem)
    → IsHistoryOf order logs h → IsHistoryOf order logs k → h ≡ k
one_of order logs h k p q =
    one_history h k (p.items ∙ sym q.items) (λ t. p.logged t ∙ sym (q.logged t))
