-- Dark colours and black ones, and what a write of one colour word keeps.
use Rattle.std.proofs.Common.{◌≡◌, ◌≢◌, ℕ, ◌<◌, ◌⊎◌, inl, inr, Bool, true, false, cond, ◌&&◌, eqb, refl, subst, sym, ap, ◌∙◌, eq-eqb, ne_eqb, eqb-true}
use Rattle.std.proofs.lemmas.Bool.{cases_Bool, and_parts}
use Rattle.block_store.specs.declared.Name.{Name}
use Rattle.block_store.specs.declared.Width.{Width}
use Rattle.block_store.specs.Colours.{is_free, is_grey, black_word, white_word}
use Rattle.block_store.specs.Payloads.{target}
use Rattle.block_store.specs.Registers.{root_block}
use Rattle.block_store.specs.Widths.{payloads}
use Rattle.block_store.proofs.Lemmas.{black_grey, black_solid, changed_both, free_grey, one_root, white_black, white_grey}
use Rattle.heap_invariant.specs.name_invariant.Colouring.{IfRefers, IsDark, IsColoured, IsRegisterBlock, NotRoot, IsBlockOf, Belongs, IsShadedRoot, SweepColours}
use Rattle.block_store.specs.Counts.{changed}
use Rattle.heap_invariant.specs.name_invariant.Invariant.{IsPainted}
use Rattle.heap_invariant.proofs.name_invariant.WordTargets.{root_in}

pub differ : (b : Bool) → b ≡ true → b ≡ false → ⊥
differ b t f = let z : true ≡ false = sym t ∙ f in cc

pub changed_here : {A : Type 0} (f : ℕ → A) (x : ℕ) (v : A) (y : ℕ) → x ≡ y → changed f x v y ≡ v
changed_here f x v y e = rw (eq-eqb x y e) refl

pub changed_else : {A : Type 0} (f : ℕ → A) (x : ℕ) (v : A) (y : ℕ) → (x ≡ y → ⊥)
    → changed f x v y ≡ f y
changed_else f x v y ne = rw (ne_eqb x y ne) refl

pub dark_solid : (c w : ℕ) → IsDark c w → is_free w ≡ false
dark_solid c w (inl g) = elim (cases_Bool (is_free w))
    [ inl f ↦ absurd (free_grey w f g) | inr f ↦ f ]
dark_solid c w (inr b) = black_solid c w b

pub dark_not_white : (c w : ℕ) → IsDark c w → w ≢ white_word c
dark_not_white c w (inl g) e = white_grey c w e g
dark_not_white c w (inr b) e = white_black c w e b

-- a colour that is not Free, grey or white is black
pub must_be_black : (c w : ℕ) → IsColoured c w → is_free w ≡ false → is_grey w ≡ false
    → w ≢ white_word c → w ≡ black_word c
must_be_black c w (inl f) solid ng nw = absurd (differ _ f solid)
must_be_black c w (inr (inl e)) solid ng nw = absurd (nw e)
must_be_black c w (inr (inr (inl g))) solid ng nw = absurd (differ _ g ng)
must_be_black c w (inr (inr (inr b))) solid ng nw = b

-- Block x becomes v.
pub painted_at : (W : Width) (n cycle : ℕ) (L K : Name → Type 0) (blocks : Name → ℕ)
    (at : Name → ℕ → ℕ) (colour : ℕ → ℕ) (B : ℕ → Type 0) (x v : ℕ)
    → IsColoured cycle v → (IsRegisterBlock W n x → is_free v ≡ false)
    → (IsBlockOf K blocks at x → is_free v ≡ false)
    → (IsDark cycle v → Belongs W n L blocks at x ⊎ B x)
    → IsPainted W n cycle L K blocks at colour B
    → IsPainted W n cycle L K blocks at (changed colour x v) B
painted_at W n cycle L K blocks at colour B x v fits arrays solid marked k = record {
  fits = λ y. changed_both (λ y w. IsColoured cycle w) colour x v y (λ _. fits) (λ _. k.fits y);
  arrays = λ y r. changed_both (λ y w. is_free w ≡ false) colour x v y
      (λ e. arrays (subst (IsRegisterBlock W n) (sym e) r)) (λ _. k.arrays y r);
  solid = λ a o ka ol. changed_both (λ y w. is_free w ≡ false) colour x v (at a o)
      (λ e. solid (record { name = a; ordinal = o; kept = ka; low = ol; is = e }))
      (λ _. k.solid a o ka ol);
  marked = λ y. changed_both (λ y w. IsDark cycle w → Belongs W n L blocks at y ⊎ B y) colour x v y
      (λ e. subst (λ z. IsDark cycle v → Belongs W n L blocks at z ⊎ B z) e marked)
      (λ _. k.marked y);
}

-- more blocks are coloured by builders
pub painted_built : (W : Width) (n cycle : ℕ) (L K : Name → Type 0) (blocks : Name → ℕ)
    (at : Name → ℕ → ℕ) (colour : ℕ → ℕ) (B C : ℕ → Type 0) → ((x : ℕ) → B x → C x)
    → IsPainted W n cycle L K blocks at colour B → IsPainted W n cycle L K blocks at colour C
painted_built W n cycle L K blocks at colour B C more k = record {
  fits = k.fits;
  arrays = k.arrays;
  solid = k.solid;
  marked = λ x d. or_more x (k.marked x d);
}
  where
    or_more : (x : ℕ) → Belongs W n L blocks at x ⊎ B x → Belongs W n L blocks at x ⊎ C x
    or_more x (inl b) = inl b
    or_more x (inr b) = inr (more x b)

module _ (W : Width) (n cycle : ℕ) (K : Name → Type 0) (blocks : Name → ℕ) (at : Name → ℕ → ℕ)
    (colour : ℕ → ℕ) (payload : ℕ → ℕ → ℕ) (shaded : ℕ → Bool)
    (k : SweepColours W n cycle K blocks at colour payload shaded) where
  abbrev IsBlack : (ℕ → ℕ) → ℕ → Type 0
  IsBlack paint y = (paint y ≡ black_word cycle) × NotRoot W n y

  -- no kept block is white
  pub white_not_kept : (x : ℕ) → colour x ≡ white_word cycle → IsBlockOf K blocks at x → ⊥
  white_not_kept x w b = white_black cycle (colour x) w
      (ap colour b.is ∙ k.kept b.name b.ordinal b.kept b.low)

  -- nor is a block of a register array
  pub white_not_array : (x : ℕ) → colour x ≡ white_word cycle → IsRegisterBlock W n x → ⊥
  white_not_array x w r = dark_not_white cycle (colour x) (k.arrays x r) w

  -- A white block becomes Free.
  pub freed : (x v : ℕ) → colour x ≡ white_word cycle → is_free v ≡ true
      → SweepColours W n cycle K blocks at (changed colour x v) payload shaded
  freed x v white free = record {
    kept = λ a o ka ol. changed_both (λ y w. w ≡ black_word cycle) colour x v (at a o)
        (λ e. absurd (white_not_kept x white
        (record { name = a; ordinal = o; kept = ka; low = ol; is = e }))) (λ _. k.kept a o ka ol);
    arrays = λ y r. changed_both (λ y w. IsDark cycle w) colour x v y
        (λ e. absurd (white_not_array x white (subst (IsRegisterBlock W n) (sym e) r)))
        (λ _. k.arrays y r);
    greys = λ y. changed_both (λ y w. is_grey w ≡ true → IsShadedRoot W n shaded y) colour x v y
        (λ _ g. absurd (free_grey v free g)) (λ _. k.greys y);
    roots = λ t tn e. (let g = k.roots t tn e in changed_both (λ y w. is_grey w ≡ true) colour x v
        (root_block W t) (λ q. absurd (white_grey cycle (colour (root_block W t))
        (ap colour (sym q) ∙ white) g)) (λ _. g));
    darks = λ y j. changed_both (λ y w. IsDark cycle w → j < payloads W
        → IfRefers (IsBlack (changed colour x v)) (payload y j)) colour x v y
        (λ _ d. absurd (differ _ free (dark_solid cycle v d)))
        (λ _ d jl some. (let b = k.darks y j d jl some in (
          changed_both (λ z w. w ≡ black_word cycle) colour x v _
              (λ e. absurd (white_black cycle _ (ap colour (sym e) ∙ white) b.0)) (λ _. b.0),
          b.1,
        )));
  }

  -- A Free block that refers to its own black blocks becomes black.
  pub blackened : (x : ℕ) → is_free (colour x) ≡ true
      → ((j : ℕ) → j < payloads W → IfRefers (IsBlack colour) (payload x j))
      → SweepColours W n cycle K blocks at (changed colour x (black_word cycle)) payload shaded
  blackened x free own = record {
    kept = λ a o ka ol. changed_both (λ y w. w ≡ black_word cycle) colour x (black_word cycle)
        (at a o) (λ _. refl) (λ _. k.kept a o ka ol);
    arrays = λ y r. changed_both (λ y w. IsDark cycle w) colour x (black_word cycle) y
        (λ _. inr refl) (λ _. k.arrays y r);
    greys = λ y. changed_both (λ y w. is_grey w ≡ true → IsShadedRoot W n shaded y) colour x
        (black_word cycle) y (λ _ g. absurd (black_grey cycle _ refl g)) (λ _. k.greys y);
    roots = λ t tn e. (let g = k.roots t tn e in changed_both (λ y w. is_grey w ≡ true) colour x
        (black_word cycle) (root_block W t)
        (λ q. absurd (free_grey (colour (root_block W t))
        (subst (λ z. is_free (colour z) ≡ true) q free) g)) (λ _. g));
    darks = λ y j. changed_both (λ y w. IsDark cycle w → j < payloads W
        → IfRefers (IsBlack (changed colour x (black_word cycle))) (payload y j)) colour x
        (black_word cycle) y
        (λ e _ jl some. (let b = own j jl (subst (λ z. target (payload z j) ≢ 0) (sym e) some) in
        still (subst (λ z. IsBlack colour (target (payload z j))) e b)))
        (λ _ d jl some. still (k.darks y j d jl some));
  }
    where
      still : {y : ℕ} → IsBlack colour y → IsBlack (changed colour x (black_word cycle)) y
      still {y} b = (
        changed_both (λ z w. w ≡ black_word cycle) colour x (black_word cycle) y
            (λ _. refl) (λ _. b.0),
        b.1,
      )

  -- A root becomes grey. Nothing refers to it.
  pub root_shaded : (t v : ℕ) → t < n → is_grey v ≡ true
      → ((a : Name) (o : ℕ) → K a → o < blocks a → NotRoot W n (at a o))
      → SweepColours W n cycle K blocks at (changed colour (root_block W t) v) payload
      (changed shaded t true)
  root_shaded t v tn grey apart = record {
    kept = λ a o ka ol. changed_both (λ y w. w ≡ black_word cycle) colour (root_block W t) v
        (at a o) (λ e. absurd (apart a o ka ol t tn (sym e))) (λ _. k.kept a o ka ol);
    arrays = λ y r. changed_both (λ y w. IsDark cycle w) colour (root_block W t) v y (λ _. inl grey)
        (λ _. k.arrays y r);
    greys = λ y. changed_both (λ y w. is_grey w ≡ true → IsShadedRoot W n (changed shaded t true) y)
        colour (root_block W t) v y
        (λ e _. (t, tn, sym e, changed_here shaded t true t refl))
        (λ _ g. (let r = k.greys y g in (
          r.0,
          r.1,
          r.2,
          changed_both (λ u b. b ≡ true) shaded t true r.0 (λ _. refl)
              (λ _. r.3),
        )));
    roots = λ u un. changed_both (λ u b. b ≡ true
        → is_grey (changed colour (root_block W t) v (root_block W u)) ≡ true) shaded t true u
        (λ e _. subst (λ w. is_grey w ≡ true)
        (sym (changed_here colour (root_block W t) v (root_block W u) (ap (root_block W) e)))
        grey)
        (λ ne is. subst (λ w. is_grey w ≡ true)
        (sym (changed_else colour (root_block W t) v (root_block W u)
        (λ e. ne (one_root W t u e)))) (k.roots u un is));
    darks = λ y j d jl some. (
        let old : IsDark cycle (colour y) = changed_both
        (λ z w. IsDark cycle w → IsDark cycle (colour z)) colour (root_block W t) v y
        (λ e _. subst (λ z. IsDark cycle (colour z)) e
        (k.arrays (root_block W t) (root_in W n t tn))) (λ _ d. d) d in
        let b = k.darks y j old jl some in (
          changed_both (λ z w. w ≡ black_word cycle) colour (root_block W t) v _
              (λ e. absurd (b.1 t tn (sym e))) (λ _. b.0),
          b.1,
        ));
  }

  -- A payload is written that refers to a black block, or at a block that is not dark.
  pub payload_written : (x j v : ℕ) → (IsDark cycle (colour x) → IfRefers (IsBlack colour) v)
      → SweepColours W n cycle K blocks at colour (λ y i. cond (eqb x y && eqb j i) v (payload y i))
      shaded
  payload_written x j v ok = record {
    kept = k.kept;
    arrays = k.arrays;
    greys = k.greys;
    roots = k.roots;
    darks = λ y i d il. elim (cases_Bool (eqb x y && eqb j i)) [
      | inl is ↦ rw is (ok (subst (λ z. IsDark cycle (colour z))
          (sym (eqb-true _ _ (and_parts (eqb x y) (eqb j i) is).0)) d))
      | inr is ↦ rw is (k.darks y i d il)
    ];
  }
