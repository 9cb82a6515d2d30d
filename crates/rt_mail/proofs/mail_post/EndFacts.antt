-- What the ends of a post know.
use Rattle.std.proofs.Common.{◌≡◌, ℕ, ◌+◌, ◌<◌, ◌==◌, eq-eqb, ne_eqb, Bool, true, true≢false, ◌||◌, append-nil, List, [], ◌∷◌, ◌++◌, length, map, get_or, set, count_by, slice_index_or, sym, refl, ap, ◌∙◌, subst, inl, inr, Some, None, Option, IsSome, IfSome, arith}
use Rattle.std.proofs.lemmas.Bool.{cases_eq}
use Rattle.std.proofs.lemmas.Bool.Decides.{nat_tests}
use Rattle.std.proofs.lemmas.List.FromFn.{fill_by_all, length-map-range_with_len, get_or-map-range_with_len, map-range_with_len_more}
use Rattle.std.proofs.Math.ListN.{length-set}
use Rattle.std.proofs.Math.Seq.{map-set_same}
use Rattle.std.proofs.lemmas.Grind.{get_or-set_at}
use Rattle.std.proofs.lemmas.List.{get_or-set_other, get_or-map, map-set, map-append}
use Rattle.std.specs.List.{AllByRecursion, range_with_len}
use Rattle.atomic_table.specs.Seated.{TableId}
use Rattle.rt_mail.specs.declared.mail_post.views.Letter.{Letter}
use Rattle.rt_mail.specs.declared.mail_post.views.Whole.{Whole}
use Rattle.rt_mail.specs.declared.mail_post.views.View.{View}
use Rattle.rt_mail.specs.declared.mail_post.views.View.TheVariants.{Taking}
use Rattle.rt_mail.specs.mail_post.Letters.{numbers_of, sent_by}
use Rattle.rt_mail.specs.mail_post.Rule.{IsSplit, Tells, letters_in, gathered_in, senders_in}
use Rattle.rt_mail.specs.mail_post.NumberRows.{Taken, rows_of, no_row, took}
use Rattle.rt_mail.specs.mail_post.PostStates.{SenderState, is_among, AllOrNone, IsTaker, IsTakenState, all_sent, known_sent, whole_of, AreAll, OfPost, fresh_sender, fresh_senders}
use Rattle.rt_mail.proofs.mail_post.Moves.{numbers_snoc, upd, upd_here, upd_else}

-- ---- what was sent

sent_split : (t : ℕ) (letters items : List Letter) (ws : List Whole)
    → AllByRecursion (IsSplit letters items) ws → is_among t ws ≡ true → sent_by t ws
    ≡ numbers_of t letters ++ numbers_of t items
sent_split t letters items [] f a = absurd (true≢false (sym a))
sent_split t letters items (w ∷ ws) f a = elim (cases_eq w.thread t) [
  | inl e ↦ rw (eq-eqb w.thread t e) (f.0 ∙ ap (λ
      (k : ℕ). numbers_of k letters ++ numbers_of k items) e)
  | inr ne ↦ rw (ne_eqb w.thread t ne) (sent_split t letters items ws f.1 (sym (ap (λ
      (b : Bool). b || is_among t ws) (ne_eqb w.thread t ne)) ∙ a))
]

among_all : (n : ℕ) (ws : List Whole) → ((t : ℕ) → t < n → is_among t ws ≡ true) → AllOrNone n ws
among_all n [] f = tt
among_all n (w ∷ ws) f = f

all_among : (n : ℕ) (ws : List Whole) → IsSome (known_sent n ws) → AllOrNone n ws → (t : ℕ)
    → t < n → is_among t ws ≡ true
all_among n [] some a = absurd (true≢false (sym some))
all_among n (w ∷ ws) some a = a

known : (n : ℕ) (ws : List Whole) (t : ℕ) → is_among t ws ≡ true → known_sent n ws
    ≡ Some (all_sent n ws)
known n [] t a = absurd (true≢false (sym a))
known n (w ∷ ws) t a = refl

-- ---- what was taken begins what was sent

sent_at : (n t : ℕ) (ws : List Whole) → t < n → slice_index_or (all_sent n ws) t [] ≡ sent_by t ws
sent_at n t ws h = get_or-map-range_with_len (λ k. sent_by k ws) 0 n t t [] h (omega arith)

pub delivered : (rows : List (List ℕ)) (v : View) (items : List Letter) → IsTaker rows v
    → IsSome (known_sent (length rows) (gathered_in v)) → Tells v items
    → IsTakenState rows (all_sent (length rows) (gathered_in v))
delivered rows v items k some tells = record {
  size = length-map-range_with_len (λ t. sent_by t (gathered_in v)) 0 (length rows);
  begins = λ t h. (
    numbers_of t items,
    sent_at (length rows) t (gathered_in v) h ∙ sent_split t (letters_in v) items
        (gathered_in v) tells (all_among (length rows) (gathered_in v) some k.gathered t h)
        ∙ ap (λ (l : List ℕ). l ++ numbers_of t items) (sym (k.rows_are t h)),
  );
}

-- where nothing is left, all was taken
pub all_taken : (rows : List (List ℕ)) (v : View) → IsTaker rows v → Tells v []
    → IfSome (known_sent (length rows) (gathered_in v)) (λ all. rows ≡ all)
all_taken rows v k tells = go (gathered_in v) tells k.gathered
  where
    go : (ws : List Whole) → AllByRecursion (IsSplit (letters_in v) []) ws
        → AllOrNone (length rows) ws → IfSome (known_sent (length rows) ws) (λ all. rows ≡ all)
    go [] f a = tt
    go (w ∷ ws) f a = fill_by_all (λ t. sent_by t (w ∷ ws)) rows (length rows) [] refl
        (λ t h. k.rows_are t h ∙ sym (append-nil (numbers_of t (letters_in v)))
        ∙ sym (sent_split t (letters_in v) [] (w ∷ ws) f (a t h)))

-- ---- one letter more

row_more : (rows : List (List ℕ)) (letters : List Letter) (x : Letter) → x.thread < length rows
    → ((t : ℕ) → t < length rows → slice_index_or rows t [] ≡ numbers_of t letters)
    → (t : ℕ) → t < length rows → slice_index_or (took rows x.thread x.number) t []
    ≡ numbers_of t (letters ++ x ∷ [])
row_more rows letters x in_range all t h =
    let y : List ℕ = get_or rows x.thread [] ++ x.number ∷ [] in
    elim (cases_eq t x.thread) [
      | inl e ↦ get_or-set_at rows x.thread t y [] e in_range
          ∙ ap (λ (l : List ℕ). l ++ x.number ∷ []) (all x.thread in_range)
          ∙ sym (ap (upd (λ p. numbers_of p letters) x.thread
          (numbers_of x.thread letters ++ x.number ∷ [])) e
          ∙ upd_here (λ p. numbers_of p letters) x.thread
          (numbers_of x.thread letters ++ x.number ∷ []))
          ∙ sym (numbers_snoc t letters x)
      | inr ne ↦ get_or-set_other rows x.thread t y [] ne ∙ all t h
          ∙ sym (upd_else (λ p. numbers_of p letters) x.thread t
          (numbers_of x.thread letters ++ x.number ∷ []) ne) ∙ sym (numbers_snoc t letters x)
    ]

-- a view that is known to be a taker's
taker : (rows : List (List ℕ)) (v : View) (n : ℕ) (letters : List Letter) (gathered : List Whole)
    → v ≡ Taking n letters gathered → 0 < length rows → n ≡ length rows
    → ((t : ℕ) → t < length rows → slice_index_or rows t [] ≡ numbers_of t letters)
    → AllOrNone (length rows) gathered → IsTaker rows v
taker rows v n letters gathered e h same all g = subst (λ (u : View). IsTaker rows u) (sym e)
    (record {
      some = h;
      is = ap (λ
          (m : ℕ). Taking m letters gathered) same;
      rows_are = all;
      gathered = g;
    })

pub took_more : (rows : List (List ℕ)) (v w : View) (x : Letter) → IsTaker rows v → w
    ≡ Taking (senders_in v) (letters_in v ++ x ∷ []) (gathered_in v) → x.thread < senders_in v
    → IsTaker (took rows x.thread x.number) w
took_more rows v w x k e h =
    let same : senders_in v ≡ length rows = ap senders_in k.is in
    let y : List ℕ = get_or rows x.thread [] ++ x.number ∷ [] in
    let long : length (set rows x.thread y) ≡ length rows = length-set rows x.thread y in
    let in_range : x.thread < length rows = omega arith in
    let some = k.some in
    taker (set rows x.thread y) w (senders_in v) (letters_in v ++ x ∷ []) (gathered_in v) e
    (omega arith) (same ∙ sym long)
    (λ t below. row_more rows (letters_in v) x in_range k.rows_are t (omega arith)) (subst (λ
    (n : ℕ). AllOrNone n (gathered_in v)) (sym long) k.gathered)

-- ---- the senders are gathered

counted : (t : ℕ) (ss : List SenderState) → count_by (λ (s : SenderState). s.thread == t) ss ≡ 1
    → is_among t (map whole_of ss) ≡ true
counted t [] e = absurd (omega arith)
counted t (s ∷ ss) e = elim (cases_eq s.thread t) [
  | inl is ↦ rw (eq-eqb s.thread t is)
  | inr ne ↦ rw (ne_eqb s.thread t ne) (counted t ss (rw (ne_eqb s.thread t ne) at e))
]

pub all_there : (n : ℕ) (ss : List SenderState) → AreAll n ss → (t : ℕ) → t < n
    → is_among t (map whole_of ss) ≡ true
all_there n ss all t h = counted t ss (all t ∙ grind (arith, nat_tests))

among_more : (t : ℕ) (ws vs : List Whole) → is_among t vs ≡ true → is_among t (ws ++ vs) ≡ true
among_more t [] vs a = a
among_more t (w ∷ ws) vs a = elim (cases_eq w.thread t) [
  | inl e ↦ rw (eq-eqb w.thread t e)
  | inr ne ↦ rw (ne_eqb w.thread t ne) (among_more t ws vs a)
]

-- the senders are among those that were gathered
pub all_gathered : (n : ℕ) (ws : List Whole) (ss : List SenderState) → AreAll n ss
    → (t : ℕ) → t < n → is_among t (ws ++ map whole_of ss) ≡ true
all_gathered n ws ss all t h = among_more t ws (map whole_of ss) (all_there n ss all t h)

pub gathered_all : (rows : List (List ℕ)) (v w : View) (ss : List SenderState) → IsTaker rows v
    → AreAll (length rows) ss
    → w ≡ Taking (senders_in v) (letters_in v) (gathered_in v ++ map whole_of ss) → IsTaker rows w
gathered_all rows v w ss k all e =
    taker rows w (senders_in v) (letters_in v) (gathered_in v ++ map whole_of ss) e k.some
    (ap senders_in k.is) k.rows_are
    (among_all (length rows) (gathered_in v ++ map whole_of ss)
    (all_gathered (length rows) (gathered_in v) ss all))

-- what they sent is known
pub some_known : (n : ℕ) (ws : List Whole) (ss : List SenderState) → 0 < n → AreAll n ss
    → IsSome (known_sent n (ws ++ map whole_of ss))
some_known n ws ss h all =
    subst (λ (o : Option (List (List ℕ))). IsSome o)
    (sym (known n (ws ++ map whole_of ss) 0 (all_gathered n ws ss all 0 h))) refl

none_gathered : (n : ℕ) (ws : List Whole) → known_sent n ws ≡ None → ws ≡ []
none_gathered n [] e = refl
none_gathered n (w ∷ ws) e = absurd cc

pub known_all : (n : ℕ) (ws : List Whole) (ss : List SenderState) → 0 < n → AreAll n ss
    → known_sent n ws ≡ None
    → known_sent n (ws ++ map whole_of ss) ≡ Some (all_sent n (map whole_of ss))
known_all n ws ss h all e =
    ap (λ (vs : List Whole). known_sent n (vs ++ map whole_of ss)) (none_gathered n ws e)
    ∙ known n (map whole_of ss) 0 (all_there n ss all 0 h)

pub of_post : (post : TableId) (xs : List SenderState) (x : SenderState) (ys : List SenderState)
    → OfPost post (xs ++ x ∷ ys) → x.post ≡ post
of_post post [] x ys f = f.0
of_post post (y ∷ xs) x ys f = of_post post xs x ys f.1

-- ---- a new post

pub fresh : (rows : List (List ℕ)) (n : ℕ) (v : View) → 0 < n → v ≡ Taking n [] [] → rows
    ≡ map (λ t. []) (range_with_len 0 n) → IsTaker rows v
fresh rows n v h e is =
    let long : length rows ≡ n = ap length is ∙ length-map-range_with_len (λ t. []) 0 n in
    taker rows v n [] [] e (omega arith) (sym long)
    (λ t below. ap (λ (r : List (List ℕ)). get_or r t []) is
    ∙ get_or-map-range_with_len (λ k. []) 0 n t t [] (omega arith) (omega arith)) tt

pub ends_more : (post : TableId) (n : ℕ) (ends ends' : List SenderState) (s : SenderState)
    → ends' ≡ ends ++ s ∷ [] → s.post ≡ post → s.thread ≡ n → s.sent ≡ [] → ends
    ≡ fresh_senders post n
    → ends' ≡ fresh_senders post (n + 1)
ends_more post n ends ends' s e p t l was =
    let is : s ≡ fresh_sender post n = λ i. record { post = p i; thread = t i; sent = l i } in
    e ∙ (λ i. was i ++ is i ∷ []) ∙ sym (map-range_with_len_more (fresh_sender post) 0 n n
    (omega arith))

pub rows_more : (n : ℕ) (rows rows' : List Taken) (r : Taken) → rows' ≡ rows ++ r ∷ []
    → r.numbers ≡ [] → rows_of rows ≡ map (λ t. []) (range_with_len 0 n)
    → rows_of rows' ≡ map (λ t. []) (range_with_len 0 (n + 1))
rows_more n rows rows' r e l was =
    ap rows_of e ∙ map-append (λ (x : Taken). x.numbers) rows (r ∷ []) ∙ (λ i. was i ++ l i ∷ [])
    ∙ sym (map-range_with_len_more (λ (t : ℕ). []) 0 n n (omega arith))

-- ---- rows

pub room_more : (rows : List Taken) (i : ℕ) (y : Taken) → i < length rows → 0 < y.room → ((k : ℕ)
    → k < i → 0 < (get_or rows k no_row).room)
    → (k : ℕ) → k < i + 1 → 0 < (get_or (set rows i y) k no_row).room
room_more rows i y h some all k below = elim (cases_eq k i) [
  | inl e ↦ subst (λ (r : Taken). 0 < r.room) (sym (get_or-set_at rows i k y no_row e h)) some
  | inr ne ↦ subst (λ (r : Taken). 0 < r.room) (sym (get_or-set_other rows i k y no_row ne))
      (all k (omega arith))
]

pub same_rows : (rows : List Taken) (i : ℕ) (y d : Taken) → y.numbers ≡ d.numbers → d
    ≡ get_or rows i d → rows_of (set rows i y) ≡ rows_of rows
same_rows rows i y d e at = map-set_same (λ (x : Taken). x.numbers) rows i y d (e
    ∙ ap (λ (x : Taken). x.numbers) at)

pub put_row : (rows : List Taken) (i n : ℕ) (y d : Taken) → i < length rows → y.numbers
    ≡ d.numbers ++ n ∷ [] → d ≡ get_or rows i d → rows_of (set rows i y) ≡ took (rows_of rows) i n
put_row rows i n y d h e at =
    map-set (λ (x : Taken). x.numbers) rows i y
    ∙ ap (λ (l : List ℕ). set (rows_of rows) i l) (e
    ∙ ap (λ (l : List ℕ). l ++ n ∷ []) (ap (λ (x : Taken). x.numbers) at
    ∙ sym (get_or-map (λ (x : Taken). x.numbers) rows i d [] h)))
