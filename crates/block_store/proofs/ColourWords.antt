-- What colour words say.
use Rattle.std.proofs.Common.{inl, inr, subst, IfSome, ◌≡◌, ◌≢◌, ℕ, ◌+◌, ◌-◌, ◌*◌, ◌/◌, ◌%◌, Some, None, refl, arith, true, false, eqb, leb, eqb-true, ne_eqb, leb-true, ◌&&◌, ap, sym, ◌∙◌}
use Rattle.std.proofs.lemmas.Bool.{cases_eq, cases_Bool, and_parts}
use Rattle.std.proofs.lemmas.Bool.Decides.{nat_tests}
use Rattle.block_store.specs.Colours.{IsColour, colour_code, colour_of, colour_link, colour_kind, free_word, grey_word, black_word, white_word, black_of, white_of, link, kind, is_free, is_grey}
use Rattle.block_store.specs.declared.Colour.{Colour}
use Rattle.block_store.specs.declared.Colour.TheVariants.{Free, Even, Odd, Grey}
use Rattle.block_store.specs.Heaps.{Heap}
use Rattle.block_store.specs.Places.{ColourOf}

pub link-grey : (l : ℕ) → link (grey_word l) ≡ l
unfolding link grey_word
link-grey l = omega arith

pub link-free : (l : ℕ) → link (free_word l) ≡ l
unfolding link free_word
link-free l = omega arith

pub kind-grey : (l : ℕ) → kind (grey_word l) ≡ 3
unfolding kind grey_word
kind-grey l = omega arith

pub kind-free : (l : ℕ) → kind (free_word l) ≡ 0
unfolding kind free_word
kind-free l = omega arith

pub kind-black : (c : ℕ) → kind (black_word c) ≡ black_word c
unfolding kind black_word
kind-black c = omega arith

pub kind-white : (c : ℕ) → kind (white_word c) ≡ white_word c
unfolding kind white_word
kind-white c = omega arith

-- the word 0, which a place out of range reads, is Free with no link
pub kind-zero : kind 0 ≡ 0
unfolding kind
kind-zero = refl

pub link-zero : link 0 ≡ 0
unfolding link
link-zero = refl

pub free_word-zero : free_word 0 ≡ 0
unfolding free_word
free_word-zero = refl

pub free_is : (w : ℕ) → kind w ≡ 0 → w ≡ free_word (link w)
unfolding kind link free_word
free_is w h = omega arith

pub grey_is : (w : ℕ) → kind w ≡ 3 → w ≡ grey_word (link w)
unfolding kind link grey_word
grey_is w h = omega arith

-- the words of distinct colours differ
pub black-white : (c : ℕ) → black_word c ≢ white_word c
unfolding black_word white_word
black-white c h = omega arith

pub grey-white : (l c : ℕ) → grey_word l ≢ white_word c
unfolding grey_word white_word
grey-white l c h = omega arith

pub grey-black : (l c : ℕ) → grey_word l ≢ black_word c
unfolding grey_word black_word
grey-black l c h = omega arith

pub free-white : (l c : ℕ) → free_word l ≢ white_word c
unfolding free_word white_word
free-white l c h = omega arith

pub free-black : (l c : ℕ) → free_word l ≢ black_word c
unfolding free_word black_word
free-black l c h = omega arith

pub grey-free : (l m : ℕ) → grey_word l ≢ free_word m
unfolding grey_word free_word
grey-free l m h = omega arith

pub one_grey : (l m : ℕ) → grey_word l ≡ grey_word m → l ≡ m
unfolding grey_word
one_grey l m h = omega arith

pub one_free : (l m : ℕ) → free_word l ≡ free_word m → l ≡ m
unfolding free_word
one_free l m h = omega arith

pub not_grey_black : (c : ℕ) → is_grey (black_word c) ≡ false
unfolding kind black_word
not_grey_black c = ne_eqb ((1 + c % 2) % 8) 3 (λ h. omega arith)

pub not_grey_white : (c : ℕ) → is_grey (white_word c) ≡ false
unfolding kind white_word
not_grey_white c = ne_eqb ((2 - c % 2) % 8) 3 (λ h. omega arith)

pub not_grey_free : (l : ℕ) → is_grey (free_word l) ≡ false
not_grey_free l = rw (kind-free l) refl

pub not_free_black : (c : ℕ) → is_free (black_word c) ≡ false
unfolding kind black_word
not_free_black c = ne_eqb ((1 + c % 2) % 8) 0 (λ h. omega arith)

pub not_free_white : (c : ℕ) → is_free (white_word c) ≡ false
unfolding kind white_word
not_free_white c = ne_eqb ((2 - c % 2) % 8) 0 (λ h. omega arith)

pub not_free_grey : (l : ℕ) → is_free (grey_word l) ≡ false
not_free_grey l = rw (kind-grey l) refl

pub grey_grey : (l : ℕ) → is_grey (grey_word l) ≡ true
grey_grey l = rw (kind-grey l) refl

pub free_free : (l : ℕ) → is_free (free_word l) ≡ true
free_free l = rw (kind-free l) refl

-- with the next cycle black becomes white
pub white-next : (c : ℕ) → white_word (c + 1) ≡ black_word c
unfolding black_word white_word
white-next c = omega arith

pub black-next : (c : ℕ) → black_word (c + 1) ≡ white_word c
unfolding black_word white_word
black-next c = omega arith

-- the words of the two Live colours
pub code_black : (c : ℕ) → colour_code (black_of c) ≡ black_word c
unfolding black_of black_word
code_black c = elim (cases_eq (c % 2) 0) [
  | inl z ↦ rw z refl
  | inr nz ↦ (let o : c % 2 ≡ 1 = omega arith in rw o refl)
]

pub code_white : (c : ℕ) → colour_code (white_of c) ≡ white_word c
unfolding white_of white_word
code_white c = elim (cases_eq (c % 2) 0) [
  | inl z ↦ rw z refl
  | inr nz ↦ (let o : c % 2 ≡ 1 = omega arith in rw o refl)
]

-- a black block has no link
pub link-black : (c : ℕ) → link (black_word c) ≡ 0
unfolding link black_word
link-black c = omega arith

pub colour-code : (c : Colour) → IsColour c → colour_of (colour_code c) ≡ Some c
unfolding colour_of free_word grey_word
colour-code (Free l) h =
    let a : eqb (8 * l) 1 ≡ false = grind (arith, nat_tests) in
    let b : eqb (8 * l) 2 ≡ false = grind (arith, nat_tests) in
    let r : (8 * l) % 8 ≡ 0 = omega arith in
    let d : (8 * l) / 8 ≡ l = omega arith in
    let low : leb l 65535 ≡ true = grind (arith, nat_tests) in
    rw (a, b, r, d, low) refl
colour-code Even h = refl
colour-code Odd h = refl
colour-code (Grey l) h =
    let a : eqb (8 * l + 3) 1 ≡ false = grind (arith, nat_tests) in
    let b : eqb (8 * l + 3) 2 ≡ false = grind (arith, nat_tests) in
    let r : (8 * l + 3) % 8 ≡ 3 = omega arith in
    let d : (8 * l + 3) / 8 ≡ l = omega arith in
    let low : leb l 65535 ≡ true = grind (arith, nat_tests) in
    rw (a, b, r, d, low) refl

-- the word of a black block reads as a colour
pub colour-black : (c : ℕ) → colour_of (black_word c) ≡ Some (black_of c)
unfolding black_of black_word
colour-black c = elim (cases_eq (c % 2) 0) [
  | inl z ↦ rw z (colour-code Even tt)
  | inr nz ↦ (let o : c % 2 ≡ 1 = omega arith in rw o (colour-code Odd tt))
]

-- a word that reads as nothing was not written
pub unread : (w : ℕ) → colour_of w ≡ None → (c : Colour) → IsColour c → colour_code c ≢ w
unread w e c h q = let r = colour-code c h in let z = ap colour_of q in cc

-- what is read of a word is what it says
shown : (w : ℕ) → IfSome (colour_of w)
    (λ c. IsColour c × (colour_code c ≡ w) × (colour_link c ≡ link w) × (colour_kind c ≡ kind w))
unfolding colour_of link kind free_word grey_word
shown w = elim (cases_eq w 1) [
  | inl e ↦ rw e (tt, refl, refl, refl)
  | inr not_even ↦ rw (ne_eqb w 1 not_even) (elim (cases_eq w 2) [
    | inl e ↦ rw e (tt, refl, refl, refl)
    | inr not_odd ↦ rw (ne_eqb w 2 not_odd)
        (elim (cases_Bool (eqb (w % 8) 0 && leb (w / 8) 65535)) [
          | inl t ↦ (let p = and_parts (eqb (w % 8) 0) (leb (w / 8) 65535) t in
              let z = eqb-true (w % 8) 0 p.0 in
              rw t (leb-true (w / 8) 65535 p.1, omega arith, refl, sym z))
          | inr f ↦ rw f (elim (cases_Bool (eqb (w % 8) 3 && leb (w / 8) 65535)) [
            | inl t ↦ (let p = and_parts (eqb (w % 8) 3) (leb (w / 8) 65535) t in
                let z = eqb-true (w % 8) 3 p.0 in
                rw t (leb-true (w / 8) 65535 p.1, omega arith, refl, sym z))
            | inr g ↦ rw g tt
          ])
        ])
  ])
]

pub reads : (w : ℕ) (c : Colour) → colour_of w ≡ Some c
    → IsColour c × (colour_code c ≡ w) × (colour_link c ≡ link w) × (colour_kind c ≡ kind w)
reads w c e = subst (λ o. IfSome o
    (λ d. IsColour d × (colour_code d ≡ w) × (colour_link d ≡ link w)
    × (colour_kind d ≡ kind w))) e (shown w)

-- the kinds of colour are apart
pub free_not_grey : (v : ℕ) → is_free v ≡ true → is_grey v ≡ false
free_not_grey v free =
    let w = free_is v (eqb-true (kind v) 0 free) in
    subst (λ z. is_grey z ≡ false) (sym w) (not_grey_free (link v))

pub free_grey : (w : ℕ) → is_free w ≡ true → is_grey w ≡ true → ⊥
free_grey w f g =
    let a : kind w ≡ 0 = eqb-true _ _ f in
    let b : kind w ≡ 3 = eqb-true _ _ g in
    omega arith

pub black_grey : (c w : ℕ) → w ≡ black_word c → is_grey w ≡ true → ⊥
black_grey c w b g =
    let z : true ≡ false = sym (subst (λ v. is_grey v ≡ true) b g) ∙ not_grey_black c in cc

pub white_grey : (c w : ℕ) → w ≡ white_word c → is_grey w ≡ true → ⊥
white_grey c w b g =
    let z : true ≡ false = sym (subst (λ v. is_grey v ≡ true) b g) ∙ not_grey_white c in cc

pub white_black : (c w : ℕ) → w ≡ white_word c → w ≡ black_word c → ⊥
white_black c w e b = black-white c (sym b ∙ e)

pub black_solid : (c w : ℕ) → w ≡ black_word c → is_free w ≡ false
black_solid c w b = subst (λ v. is_free v ≡ false) (sym b) (not_free_black c)

pub white_solid : (c w : ℕ) → w ≡ white_word c → is_free w ≡ false
white_solid c w b = subst (λ v. is_free v ≡ false) (sym b) (not_free_white c)

-- the colour word of each block
abbrev pub colours : Heap → ℕ → ℕ
colours h x = h (ColourOf x)
