-- Texts that are appended one after the other, and what std's words say of bytes.
use Rattle.std.proofs.Common.{◌≡◌, ℕ, ◌+◌, ◌-◌, ◌<◌, ◌≤◌, min, List, [], ◌∷◌, ◌++◌, get_or, take-append-drop, arith, length, take, drop, sym, ◌∙◌, ap, subst, append_assoc, append-nil, Option, Some, None, IfSome, Result, Ok, Err, OnErr}
use Rattle.std.proofs.lemmas.List.{take_rest, take_min, take-append-le, take_all}
use Rattle.std.proofs.Math.Seq.{take-append_seam, take-append-add, take-add, take-suc}
use Rattle.std.proofs.Math.Numerals.{add-one}
use Rattle.std.proofs.lemmas.Grind.{flat_map-append}
use Rattle.std.specs.List.{flat_map}
use Rattle.std.specs.Io.KnownBytes as known
use Rattle.trace_text.specs.Streams.{Appends, AppendsPrefix}

pub appends_none : (held : Option (List ℕ)) → Appends held held []
appends_none None = tt
appends_none (Some xs) = ap Some (sym (append-nil xs))

pub appends_in_turn : (a b c : Option (List ℕ)) (xs ys : List ℕ) → Appends a b xs → Appends b c ys
    → Appends a c (xs ++ ys)
appends_in_turn None b c xs ys h i = tt
appends_in_turn (Some before) b c xs ys h i =
    let P : Option (List ℕ) → Type 0 = λ o. IfSome o (λ bytes. c ≡ Some (bytes ++ ys)) in
    subst P h i ∙ ap Some (append_assoc before xs ys)

-- a text, and then a prefix of another
pub front_in_turn : (a b c : Option (List ℕ)) (xs ys : List ℕ) → Appends a b xs
    → AppendsPrefix b c ys → AppendsPrefix a c (xs ++ ys)
front_in_turn None b c xs ys h i = tt
front_in_turn (Some before) b c xs ys h i =
    let P : Option (List ℕ) → Type 0 =
    λ o. IfSome o (λ bytes. (k : ℕ) × (c ≡ Some (bytes ++ take k ys))) in
    let at_b : (k : ℕ) × (c ≡ Some ((before ++ xs) ++ take k ys)) = subst P h i in (
      length xs + at_b.0,
      at_b.1
          ∙ ap Some (append_assoc before xs (take at_b.0 ys)
          ∙ ap (λ zs. before ++ zs) (sym (take-append-add xs ys at_b.0))),
    )

-- the whole of a text is a prefix of it and more
pub front_of_more : (a b : Option (List ℕ)) (xs ys : List ℕ) → Appends a b xs
    → AppendsPrefix a b (xs ++ ys)
front_of_more None b xs ys h = tt
front_of_more (Some before) b xs ys h =
    (length xs, h ∙ ap (λ zs. Some (before ++ zs)) (sym (take-append_seam xs ys)))

-- the first k of a text are a prefix of it
pub front_of_first : (a b : Option (List ℕ)) (xs : List ℕ) (k : ℕ) → Appends a b (take k xs)
    → AppendsPrefix a b xs
front_of_first None b xs k h = tt
front_of_first (Some before) b xs k h = (k, h)

pub appends_known : (a b : Option (List ℕ)) (xs : List ℕ) → known.Appends a b xs → Appends a b xs
appends_known None b xs h = tt
appends_known (Some before) None xs h = absurd h
appends_known (Some before) (Some bs) xs h = ap Some h

pub keeps_known : (a b : Option (List ℕ)) → known.Keeps a b → Appends a b []
keeps_known None b h = tt
keeps_known (Some before) None h = absurd h
keeps_known (Some before) (Some bs) h = ap Some (h ∙ sym (append-nil before))

-- a text was written up to a place, and then k bytes of what is from there on
pub written_more : (a b c : Option (List ℕ)) (text : List ℕ) (done k : ℕ)
    → Appends a b (take done text)
    → known.Appends b c (take k (take (length text - done) (drop done text)))
    → Appends a c (take (done + k) text)
written_more a b c text done k before h =
    let rest : take (length text - done) (drop done text) ≡ drop done text = take_rest text done in
    let P : List ℕ → Type 0 = λ ys. Appends b c (take k ys) in
    let more : Appends b c (take k (drop done text)) =
    subst P rest (appends_known b c
    (take k (take (length text - done) (drop done text))) h) in
    let Q : List ℕ → Type 0 = λ ys. Appends a c ys in
    subst Q (sym (take-add done k text))
    (appends_in_turn a b c (take done text) (take k (drop done text)) before more)

pub kept_more : (a b c : Option (List ℕ)) (text : List ℕ) → Appends a b text → known.Keeps b c
    → Appends a c text
kept_more a b c text before h =
    let Q : List ℕ → Type 0 = λ ys. Appends a c ys in
    subst Q (append-nil text) (appends_in_turn a b c text [] before (keeps_known b c h))

-- a prefix of a text is a prefix of it and more
pub front_longer : (a b : Option (List ℕ)) (xs ys : List ℕ) → AppendsPrefix a b xs
    → AppendsPrefix a b (xs ++ ys)
front_longer None b xs ys h = tt
front_longer (Some before) b xs ys h =
    let k = min h.0 (length xs) in
    let cut : take k xs ≡ take h.0 xs = take_min h.0 xs in
    let more : take k (xs ++ ys) ≡ take k xs = take-append-le k xs ys (omega arith) in
    (k, h.1 ∙ ap (λ zs. Some (before ++ zs)) (sym (more ∙ cut)))

-- what holds in any case holds after an error
pub at_err : {T E P : Type 0} (r : Result T E) → P → OnErr r P
at_err (Ok x) h = tt
at_err (Err e) h = h

module _ {X : Type 0} (f : X → List ℕ) where
  lines_next : (xs : List X) (i : ℕ) (d : X) → i < length xs
      → flat_map f (take (i + 1) xs) ≡ flat_map f (take i xs) ++ f (get_or xs i d)
  lines_next xs i d lt =
      ap (flat_map f) (ap (λ n. take n xs) (add-one i) ∙ take-suc xs i d lt)
      ∙ flat_map-append f (take i xs) (get_or xs i d ∷ [])
      ∙ ap (λ zs. flat_map f (take i xs) ++ zs) (append-nil (f (get_or xs i d)))

  -- the lines up to a place, and a prefix of the line there
  pub lines_front : (a b c : Option (List ℕ)) (xs : List X) (i : ℕ) (d : X) → i < length xs
      → Appends a b (flat_map f (take i xs))
      → AppendsPrefix b c (f (get_or xs i d)) → AppendsPrefix a c (flat_map f xs)
  lines_front a b c xs i d lt before h =
      let P : List ℕ → Type 0 = λ text. AppendsPrefix a c text in
      let whole : flat_map f (take (i + 1) xs) ++ flat_map f (drop (i + 1) xs) ≡ flat_map f xs =
      sym (flat_map-append f (take (i + 1) xs) (drop (i + 1) xs))
      ∙ ap (flat_map f) (take-append-drop (i + 1) xs) in
      let so_far : AppendsPrefix a c (flat_map f (take (i + 1) xs)) =
      subst P (sym (lines_next xs i d lt)) (front_in_turn a b c _ _ before h) in
      subst P whole (front_longer a c _ _ so_far)

  -- the lines up to a place at the end or past it
  pub lines_whole : (a b : Option (List ℕ)) (xs : List X) (i : ℕ) → length xs ≤ i
      → Appends a b (flat_map f (take i xs)) → Appends a b (flat_map f xs)
  lines_whole a b xs i le h =
      let P : List X → Type 0 = λ ys. Appends a b (flat_map f ys) in
      subst P (take_all i xs le) h
