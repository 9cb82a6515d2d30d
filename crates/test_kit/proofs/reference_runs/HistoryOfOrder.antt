-- How the history that an order makes goes on.
use Rattle.std.proofs.Common.{◌≡◌, ◌≢◌, ℕ, zero, suc, ◌+◌, ◌<◌, ◌≤◌, inl, inr, List, [], ◌∷◌, ◌++◌, length, map, drop, set, get_or, replicate, refl, sym, ap, ◌∙◌, subst, append_assoc, append-nil, arith}
use Rattle.std.proofs.lemmas.Bool.{cases_eq, cases_lt}
use Rattle.std.proofs.lemmas.List.{drop-drop, drop_all, get_or-set_same, get_or-set_other, get_or-replicate, get_or_past, length-replicate, length-set, drop_more}
use Rattle.never_heap.specs.declared.Entry.{Entry}
use Rattle.never_heap.specs.declared.Item.{Item}
use Rattle.never_heap.specs.declared.Item.TheVariants as items
use Rattle.never_heap.specs.Histories.{HistoryItem, Started, Did, part}
use Rattle.never_heap.specs.HistoryOfOrder.{item_of, IsHistoryOf}
use Rattle.never_heap.proofs.Lemmas.{other_part, own_part}
use Rattle.test_kit.specs.declared.reference_runs.Happened.{Happened}
use Rattle.test_kit.specs.declared.reference_runs.Happened.TheVariants as happened
use Rattle.test_kit.specs.reference_runs.Happenings.{item, history}
use Rattle.test_kit.specs.reference_runs.Making.{left_of, IsNextEntry, IsNext, NoNext}
use Rattle.test_kit.proofs.reference_runs.ReplayInRange.{history_more}

-- an order makes this history of what each log has left
pub record Makes (order : List Item) (left : ℕ → List Entry) (h : List HistoryItem) : Type 0 where
  pub items : map item_of h ≡ order
  pub logged : (t : ℕ) → part t h ≡ left t

abbrev rest_or : {A : Type 0} → List A → List A
rest_or [] = []
rest_or (x ∷ xs) = xs

-- ---- a start is next

start_made : (order : List Item) (left : ℕ → List Entry) (h : List HistoryItem)
    → Makes order left h → Makes (items.Start ∷ order) left (Started ∷ h)
start_made order left h m = record {
  items = ap (λ o. items.Start ∷ o) m.items;
  logged = m.logged;
}

start_only : (order : List Item) (left : ℕ → List Entry) (h : List HistoryItem)
    → Makes (items.Start ∷ order) left h → (k : List HistoryItem) × Makes order left k
start_only order left [] m = let no : [] ≡ items.Start ∷ order = m.items in cc
start_only order left (Started ∷ h) m = (
  h,
  record {
    items = ap rest_or m.items;
    logged = m.logged;
  },
)
start_only order left (Did e ∷ h) m =
    let no : items.Entry e.thread ∷ map item_of h ≡ items.Start ∷ order = m.items in cc

-- ---- an entry of a thread is next

module _ (order : List Item) (left since : ℕ → List Entry) (t : ℕ) where
  entry_made : (e : Entry) (h : List HistoryItem) → e.thread ≡ t → left t ≡ e ∷ since t
      → ((u : ℕ) → t ≢ u → since u ≡ left u)
      → Makes order since h → Makes (items.Entry t ∷ order) left (Did e ∷ h)
  entry_made e h own next others m = record {
    items = (λ i. items.Entry (own i) ∷ m.items i);
    logged = λ u. elim (cases_eq t u) [
      | inl is ↦ own_part e h u (own ∙ is) ∙ ap (λ es. e ∷ es) (m.logged u)
          ∙ subst (λ v. e ∷ since v ≡ left v) is (sym next)
      | inr differ ↦ other_part e h u (λ same. differ (sym own ∙ same)) ∙ m.logged u
          ∙ others u differ
    ];
  }

  -- what such a history begins with
  begins_with : (h : List HistoryItem) → Makes (items.Entry t ∷ order) left h
      → (e : Entry) × (k : List HistoryItem) × (h ≡ Did e ∷ k) × (e.thread ≡ t)
      × (map item_of k ≡ order)
  begins_with [] m = let no : [] ≡ items.Entry t ∷ order = m.items in cc
  begins_with (Started ∷ h) m =
      let no : items.Start ∷ map item_of h ≡ items.Entry t ∷ order = m.items in cc
  begins_with (Did e ∷ h) m =
      let both : items.Entry e.thread ∷ map item_of h ≡ items.Entry t ∷ order = m.items in
      let own : e.thread ≡ t = cc in
      (e, h, refl, own, ap rest_or m.items)

  entry_left : (e : Entry) (k : List HistoryItem) → Makes (items.Entry t ∷ order) left (Did e ∷ k)
      → e.thread ≡ t → left t ≡ e ∷ part t k
  entry_left e k m own = sym (m.logged t) ∙ own_part e k t own

  entry_only : (f : Entry) (h : List HistoryItem) → left t ≡ f ∷ since t
      → ((u : ℕ) → t ≢ u → since u ≡ left u)
      → Makes (items.Entry t ∷ order) left h → (k : List HistoryItem) × Makes order since k
  entry_only f h next others m =
      let b = begins_with h m in
      let e = b.0 in
      let k = b.1 in
      let n : Makes (items.Entry t ∷ order) left (Did e ∷ k) =
      subst (Makes (items.Entry t ∷ order) left) b.2 m in (
        k,
        record {
          items = b.4;
          logged = λ u. elim (cases_eq t u) [
            | inl is ↦ subst (λ v. part v k ≡ since v) is
                (ap rest_or (sym (entry_left e k n b.3) ∙ next))
            | inr differ ↦ sym (other_part e k u (λ same. differ (sym b.3 ∙ same))) ∙ n.logged u
                ∙ sym (others u differ)
          ];
        },
      )

-- ---- so much of each log was told

told_more : (logs : List (List Entry)) (told : List ℕ) (t : ℕ) → t < length told
    → left_of logs (set told t (get_or told t 0 + 1)) t ≡ drop 1 (left_of logs told t)
told_more logs told t there =
    ap (λ n. drop n (get_or logs t [])) (get_or-set_same told t (get_or told t 0 + 1) 0 there)
    ∙ sym (drop-drop 1 (get_or told t 0) (get_or logs t []))

told_others : (logs : List (List Entry)) (told : List ℕ) (t : ℕ) (u : ℕ) → t ≢ u
    → left_of logs (set told t (get_or told t 0 + 1)) u ≡ left_of logs told u
told_others logs told t u differ =
    ap (λ n. drop n (get_or logs u []))
    (get_or-set_other told t u (get_or told t 0 + 1) 0 (λ same. differ (sym same)))

pub still_left : {A : Type 0} (xs : List A) (n : ℕ) → n < length xs → drop n xs ≡ [] → ⊥
still_left [] n there none = omega arith
still_left (x ∷ xs) zero there none = cc
still_left (x ∷ xs) (suc n) there none = still_left xs n (omega arith) none

told_there : (logs : List (List Entry)) (told : List ℕ) (t : ℕ) (e : Entry)
    → length told ≡ length logs → IsNextEntry logs told t e → t < length told
told_there logs told t e rows next = elim (cases_lt t (length logs)) [
  | inl there ↦ omega arith
  | inr past ↦
      let none : left_of logs told t ≡ [] =
      ap (drop (get_or told t 0)) (get_or_past logs t [] past) ∙ drop_all (get_or told t 0) [] (omega arith) in
      let no : [] ≡ e ∷ next.1.0 = sym none ∙ next.1.1 in absurd (cc)
]

-- what the items so far are, and that no history begins otherwise
pub record IsUnderWay
    (logs : List (List Entry)) (order : List Item) (i : ℕ) (told : List ℕ) (made : List Happened)
    : Type 0 where
  pub rows : length told ≡ length logs
  pub so_far : (k : List HistoryItem) → Makes (drop i order) (left_of logs told) k
      → IsHistoryOf order logs (history made ++ k)
  pub only : (k : List HistoryItem) → IsHistoryOf order logs k
      → (rest : List HistoryItem) × Makes (drop i order) (left_of logs told) rest

module _ (logs : List (List Entry)) (order : List Item) where
  module _ (i : ℕ) (told : List ℕ) (made : List Happened) (d : Item) (there : i < length order)
      (w : IsUnderWay logs order i told made) where
    made_more : (next : Item) (since : List ℕ) (x : Happened)
        → drop i order ≡ next ∷ drop (i + 1) order
        → length since ≡ length told
        → ((k : List HistoryItem) → Makes (drop (i + 1) order) (left_of logs since) k
        → Makes (next ∷ drop (i + 1) order) (left_of logs told) (item x ∷ k))
        → ((k : List HistoryItem) → Makes (next ∷ drop (i + 1) order) (left_of logs told) k
        → (rest : List HistoryItem) × Makes (drop (i + 1) order) (left_of logs since) rest)
        → IsUnderWay logs order (i + 1) since (made ++ x ∷ [])
    made_more next since x is long forth back = record {
      rows = long ∙ w.rows;
      so_far = λ k m. subst (IsHistoryOf order logs)
          (sym (append_assoc (history made) (item x ∷ []) k)
          ∙ ap (λ h. h ++ k) (sym (history_more made x)))
          (w.so_far (item x ∷ k)
          (subst (λ o. Makes o (left_of logs told) (item x ∷ k)) (sym is) (forth k m)));
      only = λ k m. (let r = w.only k m in
          back r.0 (subst (λ o. Makes o (left_of logs told) r.0) is r.1));
    }

    pub goes_on : (since : List ℕ) (x : Happened)
        → IsNext logs told since (get_or order i d) x
        → IsUnderWay logs order (i + 1) since (made ++ x ∷ [])
    goes_on since x next = by_item (get_or order i d) (drop_more order i d there) next
      where
        by_item : (n : Item) → drop i order ≡ n ∷ drop (i + 1) order → IsNext logs told since n x
            → IsUnderWay logs order (i + 1) since (made ++ x ∷ [])
        by_item items.Start is next =
            subst (λ ts. IsUnderWay logs order (i + 1) ts (made ++ x ∷ [])) (sym next.1)
            (subst (λ y. IsUnderWay logs order (i + 1) told (made ++ y ∷ [])) (sym next.0)
            (made_more items.Start told happened.Started is refl
            (λ k m. start_made (drop (i + 1) order) (left_of logs told) k m)
            (λ k m. start_only (drop (i + 1) order) (left_of logs told) k m)))
        by_item (items.Entry t) is next =
            let e = next.0 in
            let more : List ℕ = set told t (get_or told t 0 + 1) in
            let low = told_there logs told t e w.rows next.2 in
            let first : left_of logs told t ≡ e ∷ left_of logs more t =
            next.2.1.1 ∙ ap (λ es. e ∷ es)
            (ap (drop 1) (sym next.2.1.1) ∙ sym (told_more logs told t low)) in
            subst (λ ts. IsUnderWay logs order (i + 1) ts (made ++ x ∷ [])) (sym next.3)
            (subst (λ y. IsUnderWay logs order (i + 1) more (made ++ y ∷ [])) (sym next.1)
            (made_more (items.Entry t) more (happened.Did e) is
            (length-set told t (get_or told t 0 + 1))
            (λ k m. entry_made (drop (i + 1) order) (left_of logs told) (left_of logs more) t
            e k next.2.0 first (λ u. told_others logs told t u) m)
            (λ k m. entry_only (drop (i + 1) order) (left_of logs told) (left_of logs more) t
            e k first (λ u. told_others logs told t u) m)))

    pub no_history : NoNext logs told (get_or order i d) → (k : List HistoryItem)
        → IsHistoryOf order logs k → ⊥
    no_history none k is = by_item (get_or order i d) (drop_more order i d there) none
      where
        by_item : (n : Item) → drop i order ≡ n ∷ drop (i + 1) order → NoNext logs told n → ⊥
        by_item items.Start is none = none
        by_item (items.Entry t) first none =
            let r = w.only k is in
            let m : Makes (items.Entry t ∷ drop (i + 1) order) (left_of logs told) r.0 =
            subst (λ o. Makes o (left_of logs told) r.0) first r.1 in
            let b = begins_with (drop (i + 1) order) (left_of logs told) (left_of logs told) t r.0 m in
            none b.0 (
              b.3,
              (
                part t b.1,
                entry_left (drop (i + 1) order) (left_of logs told) (left_of logs told) t b.0 b.1
                    (subst (Makes (items.Entry t ∷ drop (i + 1) order) (left_of logs told)) b.2 m) b.3,
              ),
            )

  -- where nothing was told, all is left
  pub at_first : (told : List ℕ) → length told ≡ length logs → ((t : ℕ) → get_or told t 0 ≡ 0)
      → IsUnderWay logs order 0 told []
  at_first told rows none =
      let all : (t : ℕ) → left_of logs told t ≡ get_or logs t [] =
      (λ t. ap (λ n. drop n (get_or logs t [])) (none t)) in
      record {
        rows = rows;
        so_far = λ k m. record { items = m.items; logged = λ t. m.logged t ∙ all t };
        only = λ k m. (k, record { items = m.items; logged = λ t. m.logged t ∙ sym (all t) });
      }

  module _ (i : ℕ) (told : List ℕ) (made : List Happened) (past : length order ≤ i)
      (w : IsUnderWay logs order i told made) where
    pub is_made : ((t : ℕ) → left_of logs told t ≡ []) → IsHistoryOf order logs (history made)
    is_made none =
        subst (IsHistoryOf order logs) (append-nil (history made))
        (w.so_far [] (record {
          items = sym (drop_all i order past);
          logged = λ t. sym (none t);
        }))

    no_items : (k : List HistoryItem) → map item_of k ≡ [] → (t : ℕ) → part t k ≡ []
    no_items [] none t = refl
    no_items (x ∷ k) none t = let no : item_of x ∷ map item_of k ≡ [] = none in absurd (cc)

    pub is_not_made : (((t : ℕ) → left_of logs told t ≡ []) → ⊥) → (k : List HistoryItem)
        → IsHistoryOf order logs k → ⊥
    is_not_made some k is =
        let r = w.only k is in
        some (λ t. sym (r.1.logged t) ∙ no_items r.0 (r.1.items ∙ drop_all i order past) t)

pub none_told : (n t : ℕ) → get_or {A = ℕ} (replicate n 0) t 0 ≡ 0
none_told n t = elim (cases_lt t n) [
  | inl lt ↦ get_or-replicate n t 0 0 lt
  | inr le ↦ get_or_past (replicate n 0) t 0 (omega (arith, length-replicate {A = ℕ} n 0, le))
]

-- the entry at a place of a log is the next, where so many were told
pub entry_is_next : (logs : List (List Entry)) (told : List ℕ) (t place : ℕ) (e : Entry) (i : Item)
    → i ≡ items.Entry t → place ≡ t → e.thread ≡ t
    → get_or told place 0 < length (get_or logs t [])
    → e ≡ get_or (get_or logs t []) (get_or told place 0) e
    → IsNext logs told (set told place (get_or told place 0 + 1)) i (happened.Did e)
entry_is_next logs told t place e i is same own there here =
    subst (λ (j : Item). IsNext logs told (set told place (get_or told place 0 + 1)) j
    (happened.Did e)) (sym is)
    (subst (λ (n : ℕ). get_or told n 0 < length (get_or logs t [])
    → e ≡ get_or (get_or logs t []) (get_or told n 0) e
    → IsNext logs told (set told n (get_or told n 0 + 1)) (items.Entry t) (happened.Did e))
    (sym same)
    (λ low at. (
      e,
      refl,
      (
        own,
        (
          drop (get_or told t 0 + 1) (get_or logs t []),
          drop_more (get_or logs t []) (get_or told t 0) e low
              ∙ ap (λ x. x ∷ drop (get_or told t 0 + 1) (get_or logs t [])) (sym at),
        ),
      ),
      refl,
    ))
    there here)

-- not all of the logs was told
pub not_all_told : (logs : List (List Entry)) (told : List ℕ) (t : ℕ)
    → get_or told t 0 < length (get_or logs t [])
    → ((u : ℕ) → left_of logs told u ≡ []) → ⊥
not_all_told logs told t low none = still_left (get_or logs t []) (get_or told t 0) low (none t)
