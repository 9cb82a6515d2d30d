-- Each move keeps the rule.
use Rattle.std.proofs.Common.{◌≡◌, ◌≢◌, ℕ, zero, suc, ◌+◌, ◌<◌, ◌==◌, eq-eqb, ne_eqb, Bool, append-nil, length-append, if◌then◌else◌, cond, true, false, List, [], ◌∷◌, ◌++◌, length, set, sym, refl, ap, ◌∙◌, subst, ⊎_elim, inl, inr, ◌⊎◌, append_assoc, lt_of_not-le, arith}
use Rattle.std.proofs.lemmas.Bool.{cases_eq}
use Rattle.std.specs.List.{AllByRecursion}
use mathlib.Core.Option as maybe
use mathlib.Core.Option.{some, none, some-ne-none, some-injective}
use lib.ListN.{get_elem?}
use Rattle.crossbeam_queue.specs.Fifo.{Pushes, Pops, Forks, Merges, Learns}
use Rattle.crossbeam_queue.proofs.Lists.{at_set}
use Rattle.rt_mail.specs.declared.mail_post.views.Letter.{Letter}
use Rattle.rt_mail.specs.declared.mail_post.views.Whole.{Whole}
use Rattle.rt_mail.specs.declared.mail_post.views.View.{View}
use Rattle.rt_mail.specs.declared.mail_post.views.View.TheVariants.{Spent, Sending, Taking}
use Rattle.rt_mail.specs.mail_post.Letters.{numbers_of}
use Rattle.rt_mail.specs.mail_post.Rule.{Fits, IsWhole, Delivers, with_sender, next_sender, sending_more, taking_more, sent_in, letters_in, gathered_in, senders_in, gathering, whole, IsSplit, Tells}

abbrev Seats : Type 0
Seats = ℕ → maybe.Option ℕ

abbrev Sents : Type 0
Sents = ℕ → List ℕ

-- ---- a function with one value changed

abbrev pub upd : {A : Type 0} → (ℕ → A) → ℕ → A → ℕ → A
upd f t a p = if p == t then a else f p

pub upd_here : {A : Type 0} (f : ℕ → A) (t : ℕ) (a : A) → upd f t a t ≡ a
upd_here f t a = rw (eq-eqb t t refl)

pub upd_else : {A : Type 0} (f : ℕ → A) (t p : ℕ) (a : A) → p ≢ t → upd f t a p ≡ f p
upd_else f t p a ne = rw (ne_eqb p t ne)

-- ---- letters by sender

numbers_append : (t : ℕ) (xs ys : List Letter) → numbers_of t (xs ++ ys)
    ≡ numbers_of t xs ++ numbers_of t ys
numbers_append t [] ys = refl
numbers_append t (x ∷ xs) ys =
    let P : Bool → Type 0 = λ b. cond b (x.number ∷ numbers_of t (xs ++ ys)) (numbers_of t
    (xs ++ ys)) ≡ cond b (x.number ∷ numbers_of t xs) (numbers_of t xs) ++ numbers_of t ys in
    elim (x.thread == t) as P [
      | true ↦ ap (λ l. x.number ∷ l)
          (numbers_append t xs ys)
      | false ↦ numbers_append t xs ys
    ]

-- the letter at the end goes to its thread
pub numbers_snoc : (t : ℕ) (xs : List Letter) (x : Letter) → numbers_of t (xs ++ x ∷ [])
    ≡ upd (λ p. numbers_of p xs) x.thread (numbers_of x.thread xs ++ x.number ∷ []) t
numbers_snoc t xs x =
    elim (cases_eq t x.thread) [
      | inl e ↦ numbers_append t xs (x ∷ []) ∙ subst (λ (p : ℕ). numbers_of p xs ++ numbers_of p
          (x ∷ []) ≡ upd (λ q. numbers_of q xs) x.thread
          (numbers_of x.thread xs ++ x.number ∷ []) p) (sym e)
          (ap (λ (l : List ℕ). numbers_of x.thread xs ++ l) (rw (eq-eqb x.thread x.thread refl))
          ∙ sym (upd_here (λ q. numbers_of q xs) x.thread
          (numbers_of x.thread xs ++ x.number ∷ [])))
      | inr ne ↦ numbers_append t xs (x ∷ []) ∙ ap (λ (l : List ℕ). numbers_of t xs ++ l) (rw
          (ne_eqb x.thread t (λ e. ne (sym e)))) ∙ append-nil (numbers_of t xs)
          ∙ sym (upd_else (λ q. numbers_of q xs) x.thread t
          (numbers_of x.thread xs ++ x.number ∷ []) ne)
    ]

-- a letter that is in a list is one of its thread's
is_there : (xs ys : List Letter) (x : Letter) → numbers_of x.thread (xs ++ x ∷ ys) ≡ [] → ⊥
is_there xs ys x e =
    let p : numbers_of x.thread xs ++ numbers_of x.thread (x ∷ ys)
    ≡ [] = sym (numbers_append x.thread xs (x ∷ ys)) ∙ e in
    let q : numbers_of x.thread (x ∷ ys) ≡ x.number ∷ numbers_of x.thread ys = rw
    (eq-eqb x.thread x.thread refl) in
    let l : length (numbers_of x.thread xs ++ (x.number ∷ numbers_of x.thread ys))
    ≡ 0 = ap length (ap (λ (r : List ℕ). numbers_of x.thread xs ++ r) (sym q) ∙ p) in
    omega (arith, length-append (numbers_of x.thread xs) (x.number ∷ numbers_of x.thread ys))

-- ---- views

abbrev All : (ℕ → View → Type 0) → List View → Type 0
All F views = (pass : ℕ) (v : View) → get_elem? views pass ≡ some v → F pass v

all_set : (F : ℕ → View → Type 0) (views : List View) (pass : ℕ) (w : View) → F pass w
    → ((j : ℕ) (u : View) → j ≢ pass → get_elem? views j ≡ some u → F j u)
    → All F (set views pass w)
all_set F views pass w mine others j u e = ⊎_elim (λ (x : (j ≡ pass) × (w ≡ u)). subst (λ (y : ℕ
    × View). F y.0 y.1) (λ i. (sym x.0 i, x.1 i)) mine)
    (λ (x : (j ≢ pass) × (get_elem? views j ≡ some u)). others j u x.0 x.1)
    (at_set views pass j w u e)

-- with other seats, and other lists that were sent, where what a pass knows of is the same
fits_move : (reader : ℕ) (seat seat' : Seats) (sent sent' : Sents) (taken : List Letter) (j : ℕ)
    → ((t : ℕ) → seat t ≡ some j → (seat' t ≡ seat t) × (sent' t ≡ sent t))
    → (j ≡ reader → (t : ℕ) → seat t ≡ none → (seat' t ≡ seat t) × (sent' t ≡ sent t))
    → (u : View) → Fits reader seat sent taken j u → Fits reader seat' sent' taken j u
fits_move reader seat seat' sent sent' taken j a b Spent f = tt
fits_move reader seat seat' sent sent' taken j a b (Sending t list) f = let s = a t f.0 in (
  s.0
      ∙ f.0,
  f.1 ∙ sym s.1,
)
fits_move reader seat seat' sent sent' taken j a b (Taking n letters gathered) f = (
  f.0,
  f.1,
  (λ t above. let g = f.2 t above in let s = b f.0 t g.0 in (
    s.0 ∙ g.0,
    s.1
        ∙ g.1,
  )),
  wholes_move seat seat' sent sent' (b f.0) gathered f.3,
)
  where
    wholes_move : (seat seat' : Seats) (sent sent' : Sents) → ((t : ℕ) → seat t ≡ none → (seat' t
        ≡ seat t) × (sent' t ≡ sent t))
        → (ws : List Whole) → AllByRecursion (IsWhole seat sent) ws
        → AllByRecursion (IsWhole seat' sent') ws
    wholes_move seat seat' sent sent' b [] f = tt
    wholes_move seat seat' sent sent' b (w ∷ ws) f = let s = b w.thread f.0.0 in (
      (
        s.0
            ∙ f.0.0,
        f.0.1 ∙ sym s.1,
      ),
      wholes_move seat seat' sent sent' b ws f.1,
    )

-- of a pass that is not the taker's, what was taken says nothing
fits_taken : (reader : ℕ) (seat : Seats) (sent : Sents) (taken taken' : List Letter) (j : ℕ)
    → j ≢ reader → (u : View) → Fits reader seat sent taken j u → Fits reader seat sent taken' j u
fits_taken reader seat sent taken taken' j ne Spent f = tt
fits_taken reader seat sent taken taken' j ne (Sending t list) f = f
fits_taken reader seat sent taken taken' j ne (Taking n letters gathered) f = absurd (ne f.0)

-- what is at a place of a list with one more at its end
at_end : (l : List View) (a b : View) (j : ℕ) → get_elem? (l ++ a ∷ []) j ≡ some b
    → (get_elem? l j ≡ some b) ⊎ ((j ≡ length l) × (a ≡ b))
at_end [] a b zero e = inr (refl, some-injective a b e)
at_end [] a b (suc j) e = absurd (some-ne-none b (sym e))
at_end (x ∷ xs) a b zero e = inl e
at_end (x ∷ xs) a b (suc j) e = ⊎_elim (λ there. inl there) (λ last. inr (ap suc last.0, last.1))
    (at_end xs a b j e)

-- ---- the moves

pub begins : Delivers [] (Taking 0 [] [] ∷ [])
begins = (
  0,
  λ t. none,
  λ t. [],
  [],
  (λ t. refl),
  all_set (Fits 0 (λ t. none) (λ t. []) []) (Taking 0 [] [] ∷ []) 0 (Taking 0 [] []) (
    refl,
    refl,
    (λ t above. (refl, refl)),
    tt,
  ) no_other,
)
  where
    no_other : (j : ℕ) (u : View) → j ≢ 0 → get_elem? (Taking 0 [] [] ∷ []) j ≡ some u
        → Fits 0 (λ t. none) (λ t. []) [] j u
    no_other zero u ne e = absurd (ne refl)
    no_other (suc j) u ne e = absurd (some-ne-none u (sym e))

-- two passes with one seat are one
seat_is : (seat : Seats) (t i j : ℕ) → seat t ≡ some i → seat t ≡ some j → j ≡ i
seat_is seat t i j a b = some-injective j i (sym b ∙ a)

seat_not : (seat : Seats) (t p i : ℕ) → seat t ≡ some i → seat p ≡ none → p ≢ t
seat_not seat t p i a b e = some-ne-none i (sym a ∙ ap seat (sym e) ∙ b)

pub sends : (n pass t : ℕ) (list : List ℕ) (x : Letter) → x.thread ≡ t
    → Pushes Delivers n pass (Sending t list) x (λ w. w ≡ Sending t (list ++ x.number ∷ []))
sends n pass t list x is items views _ h at =
    let mine = h.5 pass (Sending t list) at in
    let w : View = Sending t (list ++ x.number ∷ []) in
    let sent : Sents = upd h.2 t (list ++ x.number ∷ []) in
    let same : (p : ℕ) → p ≢ t → (h.1 p ≡ h.1 p) × (sent p
    ≡ h.2 p) = λ p ne. (refl, upd_else h.2 t p (list ++ x.number ∷ []) ne) in (
      w,
      (
        h.0,
        h.1,
        sent,
        h.3,
        (λ p. ap (numbers_of p) (sym (append_assoc h.3 items (x ∷ [])))
            ∙ numbers_snoc p (h.3 ++ items) x ∙ sent_more p (numbers_of x.thread
            (h.3 ++ items)) list t x.thread (h.4 x.thread) mine.1 is h.4),
        all_set (Fits h.0 h.1 sent h.3) views pass w (
          mine.0,
          sym (upd_here h.2 t
              (list ++ x.number ∷ [])),
        )
            (λ j u ne e. fits_move h.0 h.1 h.1 h.2 sent h.3 j
            (λ p there. same p (λ (i : p ≡ t). ne (seat_is h.1 t pass j mine.0 (ap h.1 (sym i)
            ∙ there))))
            (λ _ p free. same p (seat_not h.1 t p pass mine.0 free)) u (h.5 j u e)),
      ),
      refl,
    )
  where
    sent_more : (p : ℕ) (old list : List ℕ) (t s : ℕ) → old ≡ h.2 s → list ≡ h.2 t → s ≡ t
        → ((q : ℕ) → numbers_of q (h.3 ++ items) ≡ h.2 q)
        → upd (λ q. numbers_of q (h.3 ++ items)) s (old ++ x.number ∷ []) p
        ≡ upd h.2 t (list ++ x.number ∷ []) p
    sent_more p old list t s a b e all = elim (cases_eq p t) [
      | inl i ↦ subst (λ (q : ℕ). upd (λ r. numbers_of r (h.3 ++ items)) s
          (old ++ x.number ∷ []) q ≡ upd h.2 t (list ++ x.number ∷ []) q) (sym i)
          (subst (λ (q : ℕ). upd (λ r. numbers_of r (h.3 ++ items)) s (old ++ x.number ∷ []) q
          ≡ upd h.2 t (list ++ x.number ∷ []) t) e (upd_here (λ r. numbers_of r
          (h.3 ++ items)) s (old ++ x.number ∷ [])
          ∙ ap (λ (l : List ℕ). l ++ x.number ∷ []) (a ∙ ap h.2 e ∙ sym b)
          ∙ sym (upd_here h.2 t (list ++ x.number ∷ []))))
      | inr ne ↦ upd_else (λ r. numbers_of r (h.3 ++ items)) s p (old ++ x.number ∷ []) (λ i. ne
          (i ∙ e)) ∙ all p ∙ sym (upd_else h.2 t p (list ++ x.number ∷ []) ne)
    ]

pub takes : (pass n : ℕ) (letters : List Letter) (gathered : List Whole)
    → Pops Delivers pass (Taking n letters gathered) (λ x w. (w
    ≡ Taking n (letters ++ x ∷ []) gathered) × (x.thread < n))
takes pass n letters gathered x items views h at =
    let mine = h.5 pass (Taking n letters gathered) at in
    let w : View = Taking n (letters ++ x ∷ []) gathered in
    let taken = h.3 ++ x ∷ [] in (
      w,
      (
        h.0,
        h.1,
        h.2,
        taken,
        (λ p. ap (numbers_of p) (append_assoc h.3 (x ∷ []) items) ∙ h.4 p),
        all_set (Fits h.0 h.1 h.2 taken) views pass w (
          mine.0,
          ap (λ
              (l : List Letter). l ++ x ∷ []) mine.1,
          mine.2,
          mine.3,
        )
            (λ j u ne e. fits_taken h.0 h.1 h.2 h.3 taken j (λ r. ne (r
            ∙ sym mine.0)) u (h.5 j u e)),
      ),
      (
        refl,
        lt_of_not-le (λ above. is_there h.3 items x (h.4 x.thread
            ∙ (mine.2 x.thread above).1)),
      ),
    )

pub forks : (pass n : ℕ) (letters : List Letter)
    → Forks Delivers pass (Taking n letters []) (Taking (n + 1) letters []) (Sending n [])
forks pass n letters items views h at =
    let mine = h.5 pass (Taking n letters []) at in
    let l : View = Taking (n + 1) letters [] in
    let r : View = Sending n [] in
    let vs : List View = set views pass l in
    let free = mine.2 n (omega arith) in
    let seat : Seats = upd h.1 n (some (length vs)) in
    let same : (p : ℕ) → p ≢ n → (seat p ≡ h.1 p) × (h.2 p
    ≡ h.2 p) = λ p ne. (upd_else h.1 n p (some (length vs)) ne, refl) in
    let old : All (Fits h.0 seat h.2 h.3) vs = all_set (Fits h.0 seat h.2 h.3) views pass l (
      mine.0,
      mine.1,
      (λ t above. let f = mine.2 t (omega arith) in (
        (same t (λ e. absurd
            (omega arith))).0 ∙ f.0,
        f.1,
      )),
      tt,
    )
    (λ j u ne e. fits_move h.0 h.1 seat h.2 h.2 h.3 j
    (λ p there. same p (λ (i : p ≡ n). some-ne-none j (sym there ∙ ap h.1 i ∙ free.0)))
    (λ is. absurd (ne (is ∙ sym mine.0))) u (h.5 j u e)) in (
      h.0,
      seat,
      h.2,
      h.3,
      h.4,
      λ j u e. ends vs r j u seat (upd_here h.1 n (some (length vs))) (sym free.1) (old j u) e,
    )
  where
    ends : (vs : List View) (r : View) (j : ℕ) (u : View) (seat : Seats) → seat n
        ≡ some (length vs) → [] ≡ h.2 n
        → (get_elem? vs j ≡ some u → Fits h.0 seat h.2 h.3 j u)
        → get_elem? (vs ++ Sending n [] ∷ []) j ≡ some u → Fits h.0 seat h.2 h.3 j u
    ends vs r j u seat a b old e = elim (at_end vs (Sending n []) u j e) [
      | inl there ↦ old there
      | inr last ↦ subst (λ (v : View). Fits h.0 seat h.2 h.3 j v) last.1 (
        a
            ∙ ap some (sym last.0),
        b,
      )
    ]

pub merges : (pass n : ℕ) (letters : List Letter) (gathered : List Whole) (other t : ℕ)
    (list : List ℕ)
    → Merges Delivers pass (Taking n letters gathered) other (Sending t list) (Taking n letters
    (gathered ++ whole t list ∷ [])) Spent
merges pass n letters gathered other t list items views h at apart at' =
    let both : View = Taking n letters (gathered ++ whole t list ∷ []) in
    let mine = h.5 pass (Taking n letters gathered) at in
    let vs : List View = set views pass both in
    let was : get_elem? views other ≡ some (Sending t list) = ⊎_elim (λ x. absurd (apart x.0))
    (λ x. x.1) (at_set views pass other both (Sending t list) at') in
    let theirs = h.5 other (Sending t list) was in
    let seat : Seats = upd h.1 t none in
    let same : (p : ℕ) → p ≢ t → (seat p ≡ h.1 p) × (h.2 p
    ≡ h.2 p) = λ p ne. (upd_else h.1 t p none ne, refl) in
    let moved : (j : ℕ) (u : View) → j ≢ other → Fits h.0 h.1 h.2 h.3 j u
    → Fits h.0 seat h.2 h.3 j u = λ j u ne f. fits_move h.0 h.1 seat h.2 h.2 h.3 j
    (λ p there. same p (λ (i : p ≡ t). ne (seat_is h.1 t other j theirs.0 (ap h.1 (sym i)
    ∙ there))))
    (λ _ p free. same p (seat_not h.1 t p other theirs.0 free)) u f in
    let my : Fits h.0 seat h.2 h.3 pass (Taking n letters gathered) = moved pass
    (Taking n letters gathered) (λ e. apart (sym e)) mine in
    let Now : ℕ → View → Type 0 = λ j u. j ≢ other → Fits h.0 seat h.2 h.3 j u in
    let now : All Now vs = all_set Now views pass both
    (λ _. (
      my.0,
      my.1,
      my.2,
      whole_more seat h.2 gathered (whole t list) my.3
          (upd_here h.1 t none, theirs.1),
    ))
    (λ j u _ e ne. moved j u ne (h.5 j u e)) in (
      h.0,
      seat,
      h.2,
      h.3,
      h.4,
      all_set (Fits h.0 seat h.2 h.3) vs other Spent tt
          (λ j u ne e. now j u e ne),
    )
  where
    whole_more : (seat : Seats) (sent : Sents) (ws : List Whole) (w : Whole)
        → AllByRecursion (IsWhole seat sent) ws → IsWhole seat sent w
        → AllByRecursion (IsWhole seat sent) (ws ++ w ∷ [])
    whole_more seat sent [] w f g = (g, tt)
    whole_more seat sent (v ∷ vs) w f g = (f.0, whole_more seat sent vs w f.1 g)

pub tells : (pass n : ℕ) (letters : List Letter) (gathered : List Whole)
    → Learns Delivers pass (Taking n letters gathered) (Tells (Taking n letters gathered))
tells pass n letters gathered items views h at =
    split_all gathered (h.5 pass (Taking n letters gathered) at).3
  where
    split_all : (ws : List Whole) → AllByRecursion (IsWhole h.1 h.2) ws
        → AllByRecursion (IsSplit letters items) ws
    split_all [] f = tt
    split_all (w ∷ ws) f = (
      f.0.1 ∙ sym (h.4 w.thread)
          ∙ ap (λ (l : List Letter). numbers_of w.thread (l ++ items)) (sym (h.5 pass
          (Taking n letters gathered) at).1)
          ∙ numbers_append w.thread letters items,
      split_all ws f.1,
    )

-- the same of a view that is known to be a sender's
pub sends_from : (n pass : ℕ) (v : View) (x : Letter) → v ≡ Sending x.thread (sent_in v)
    → Pushes Delivers n pass v x (λ w. w ≡ sending_more v x)
sends_from n pass v x e = subst (λ (u : View). Pushes Delivers n pass u x (λ w. w
    ≡ sending_more u x)) (sym e) (sends n pass x.thread (sent_in v) x refl)

pub takes_from : (pass : ℕ) (v : View) → v ≡ Taking (senders_in v) (letters_in v) (gathered_in v)
    → Pops Delivers pass v (λ x w. (w ≡ taking_more v x) × (x.thread < senders_in v))
takes_from pass v e = subst (λ (u : View). Pops Delivers pass u (λ x w. (w ≡ taking_more u x)
    × (x.thread < senders_in u))) (sym e) (takes pass (senders_in v) (letters_in v) (gathered_in v))

pub tells_from : (pass : ℕ) (v : View) → v ≡ Taking (senders_in v) (letters_in v) (gathered_in v)
    → Learns Delivers pass v (Tells v)
tells_from pass v e = subst (λ (u : View). Learns Delivers pass u (Tells u)) (sym e) (tells pass
    (senders_in v) (letters_in v) (gathered_in v))

pub forks_from : (pass n : ℕ) (v : View) → v ≡ Taking n [] []
    → Forks Delivers pass v (with_sender v) (next_sender v)
forks_from pass n v e = subst (λ (u : View). Forks Delivers pass u (with_sender u)
    (next_sender u)) (sym e) (forks pass n [])

pub merges_from : (pass : ℕ) (v : View) (other : ℕ) (w : View) (t : ℕ) → v
    ≡ Taking (senders_in v) (letters_in v) (gathered_in v) → w ≡ Sending t (sent_in w)
    → Merges Delivers pass v other w (gathering v w) Spent
merges_from pass v other w t e f = subst (λ (u : View
    × View). Merges Delivers pass u.0 other u.1 (gathering u.0 u.1) Spent) (λ i.
    (sym e i, sym f i)) (merges pass (senders_in v) (letters_in v) (gathered_in v) other t
    (sent_in w))
