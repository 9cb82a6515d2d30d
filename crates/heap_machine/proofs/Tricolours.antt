-- What keeps the tricolour rule: a write of another place, a colour that is not white, a payload
-- that refers to no white block, and a thread that goes on.
use Rattle.std.proofs.Common.{◌≡◌, ◌≢◌, ℕ, ◌<◌, ◌+◌, ◌-◌, ◌⊎◌, ◌&&◌, true, false, cond, eqb, refl, arith, subst, sym, ◌∙◌, inl, inr, ⊎_elim, eq-eqb, ne_eqb}
use Rattle.std.proofs.lemmas.Bool.{cases_eq, cases_Bool}
use Rattle.block_store.specs.Colours.{white_word, black_word}
use Rattle.block_store.specs.Heaps.{Heap, put_at}
use Rattle.block_store.specs.Payloads.{target}
use Rattle.block_store.specs.Widths.{payloads}
use Rattle.block_store.specs.Places.{Extent, Place, Phase, Cursor, FreeCount, GreyList, FreeList, ColourOf, OwnerOf, ShapeOf, PayloadOf}
use Rattle.block_store.specs.Counts.{changed}
use Rattle.heap_machine.specs.Operations.{Operation, Load, Exchange, CompareExchange, FetchAdd, FetchSub, place_of, heap_after}
use Rattle.heap_machine.specs.Tricolour.{TricolourInHand, no_tricolour, NotWhite, TricolourKept, is_of_tricolour}
use Rattle.block_store.proofs.Lemmas.{changed_both, colours}

-- what holds of what one thread has in hand
pub record TricolourHeld (c : ℕ) (colour : ℕ → ℕ) (payload : ℕ → ℕ → ℕ) (w : TricolourInHand) : Type 0 where
  pub dealt : (i : ℕ) → i < w.dealt → NotWhite c colour (target (payload w.scan i))
  pub found : w.found ≢ 0 → (target (payload w.scan w.dealt) ≡ w.found) ⊎ NotWhite c colour (target (payload w.scan w.dealt))
  pub shaded : NotWhite c colour w.shaded

abbrev pub HeldAt : ℕ → Heap → TricolourInHand → Type 0
HeldAt c h w = TricolourHeld c (λ x. h (ColourOf x)) (λ x j. h (PayloadOf x j)) w

pub none_held : (c : ℕ) (h : Heap) → HeldAt c h no_tricolour
none_held c h = record { dealt = λ i low. absurd (omega arith); found = λ ne. absurd (ne refl); shaded = λ ne. absurd (ne refl) }

-- a block that is not white stays so, where a colour that is not white is written
still : (c : ℕ) (colour : ℕ → ℕ) (x v y : ℕ) → v ≢ white_word c → NotWhite c colour y → NotWhite c (λ z. cond (eqb x z) v (colour z)) y
still c colour x v y ok k ne = elim (cases_eq x y) [ inl e ↦ rw (eq-eqb x y e) ok | inr away ↦ rw (ne_eqb x y away) (k ne) ]

module _ (ex : Extent) (c : ℕ) (h : Heap) (hs : ℕ → TricolourInHand) (k : TricolourKept ex c h hs) where
  -- what thread t has in hand
  pub held_by : (t : ℕ) → t < ex.threads → HeldAt c h (hs t)
  held_by t low = record { dealt = λ i l. k.dealt t i low l; found = k.found t low; shaded = k.shaded t low }

  pub held_as : (t : ℕ) (w : TricolourInHand) → t < ex.threads → hs t ≡ w → HeldAt c h w
  held_as t w low e = subst (HeldAt c h) e (held_by t low)

-- the rule from its blocks and its threads
pub tricolour_of : (ex : Extent) (c : ℕ) (h : Heap) (hs : ℕ → TricolourInHand) → ((x j : ℕ) → h (ColourOf x) ≡ black_word c → j < payloads ex.width → NotWhite c (colours h) (target (h (PayloadOf x j)))) → ((t : ℕ) → t < ex.threads → HeldAt c h (hs t)) → TricolourKept ex c h hs
tricolour_of ex c h hs black held = record {
  black = black;
  dealt = λ t i low l. (held t low).dealt i l;
  found = λ t low. (held t low).found;
  shaded = λ t low. (held t low).shaded;
}

-- thread t goes on, and nothing is written
pub goes_on : (ex : Extent) (c : ℕ) (h : Heap) (hs : ℕ → TricolourInHand) (t : ℕ) (w : TricolourInHand) → HeldAt c h w → TricolourKept ex c h hs → TricolourKept ex c h (changed hs t w)
goes_on ex c h hs t w new k = tricolour_of ex c h (changed hs t w) k.black (λ u low. changed_both (λ _ (v : TricolourInHand). HeldAt c h v) hs t w u (λ _. new) (λ _. held_by ex c h hs k u low))

pub lets_go : (ex : Extent) (c : ℕ) (h : Heap) (hs : ℕ → TricolourInHand) (t : ℕ) → TricolourKept ex c h hs → TricolourKept ex c h (changed hs t no_tricolour)
lets_go ex c h hs t k = goes_on ex c h hs t no_tricolour (none_held c h) k

-- where no block is black and no thread holds anything
pub begins : (ex : Extent) (c : ℕ) (h : Heap) (hs : ℕ → TricolourInHand) → ((x : ℕ) → h (ColourOf x) ≢ black_word c) → ((t : ℕ) → t < ex.threads → hs t ≡ no_tricolour) → TricolourKept ex c h hs
begins ex c h hs none held = tricolour_of ex c h hs (λ x j is low. absurd (none x is)) (λ t low. subst (HeldAt c h) (sym (held t low)) (none_held c h))

-- block x gets a colour that is not white
pub held_colour : (c : ℕ) (h : Heap) (x v : ℕ) (w : TricolourInHand) → v ≢ white_word c → HeldAt c h w → HeldAt c (put_at h (ColourOf x) v) w
held_colour c h x v w ok k = record {
  dealt = λ i low. still c (colours h) x v (target (h (PayloadOf w.scan i))) ok (k.dealt i low);
  found = λ ne. ⊎_elim (λ e. inl e) (λ nw. inr (still c (colours h) x v (target (h (PayloadOf w.scan w.dealt))) ok nw)) (k.found ne);
  shaded = still c (colours h) x v w.shaded ok k.shaded;
}

pub kept_colour : (ex : Extent) (c : ℕ) (h : Heap) (hs : ℕ → TricolourInHand) (x v : ℕ) → v ≢ white_word c
    → (v ≡ black_word c → (j : ℕ) → j < payloads ex.width → NotWhite c (colours h) (target (h (PayloadOf x j))))
    → TricolourKept ex c h hs → TricolourKept ex c (put_at h (ColourOf x) v) hs
kept_colour ex c h hs x v ok all k = tricolour_of ex c (put_at h (ColourOf x) v) hs
    (λ y j is low. still c (colours h) x v (target (h (PayloadOf y j))) ok (elim (cases_eq x y) [
      | inl e ↦ subst (λ z. NotWhite c (colours h) (target (h (PayloadOf z j)))) e (all (let q : cond (eqb x y) v (h (ColourOf y)) ≡ v = rw (eq-eqb x y e) refl in sym q ∙ is) j low)
      | inr away ↦ k.black y j (let q : cond (eqb x y) v (h (ColourOf y)) ≡ h (ColourOf y) = rw (ne_eqb x y away) refl in sym q ∙ is) low
    ]))
    (λ t low. held_colour c h x v (hs t) ok (held_by ex c h hs k t low))

-- payload j of block x becomes a word that refers to no white block
module _ (c : ℕ) (h : Heap) (x j w : ℕ) (ok : NotWhite c (colours h) (target w)) where
  word_still : (P : ℕ → Type 0) (y i : ℕ) → P w → P (h (PayloadOf y i)) → P (put_at h (PayloadOf x j) w (PayloadOf y i))
  word_still P y i new old = elim (cases_Bool (eqb x y && eqb j i)) [ inl is ↦ rw is new | inr is ↦ rw is old ]

  refers_still : (y i : ℕ) → NotWhite c (colours h) (target (h (PayloadOf y i))) → NotWhite c (colours h) (target (put_at h (PayloadOf x j) w (PayloadOf y i)))
  refers_still y i k = word_still (λ z. NotWhite c (colours h) (target z)) y i ok k

  held_payload : (v : TricolourInHand) → HeldAt c h v → HeldAt c (put_at h (PayloadOf x j) w) v
  held_payload v k = record {
    dealt = λ i low. refers_still v.scan i (k.dealt i low);
    found = λ ne. word_still (λ z. (target z ≡ v.found) ⊎ NotWhite c (colours h) (target z)) v.scan v.dealt (inr ok) (k.found ne);
    shaded = k.shaded;
  }

  pub kept_payload : (ex : Extent) (hs : ℕ → TricolourInHand) → TricolourKept ex c h hs → TricolourKept ex c (put_at h (PayloadOf x j) w) hs
  kept_payload ex hs k = tricolour_of ex c (put_at h (PayloadOf x j) w) hs (λ y i is low. refers_still y i (k.black y i is low)) (λ t low. held_payload (hs t) (held_by ex c h hs k t low))

-- thread t stores a reference to the block that it has shaded
pub stores_shaded : (ex : Extent) (c : ℕ) (h : Heap) (hs : ℕ → TricolourInHand) (t x j w : ℕ) → t < ex.threads → target w ≡ (hs t).shaded → TricolourKept ex c h hs → TricolourKept ex c (put_at h (PayloadOf x j) w) hs
stores_shaded ex c h hs t x j w low e k = kept_payload c h x j w (subst (NotWhite c (colours h)) (sym e) (k.shaded t low)) ex hs k

-- a write of any other place
other_place : (ex : Extent) (c : ℕ) (h : Heap) (hs : ℕ → TricolourInHand) (p : Place) (v : ℕ) → is_of_tricolour p ≡ false → TricolourKept ex c h hs → TricolourKept ex c (put_at h p v) hs
other_place ex c h hs Phase v o k = k
other_place ex c h hs Cursor v o k = k
other_place ex c h hs FreeCount v o k = k
other_place ex c h hs (GreyList t) v o k = k
other_place ex c h hs (FreeList t) v o k = k
other_place ex c h hs (ColourOf x) v o k = absurd (let z : true ≡ false = o in cc)
other_place ex c h hs (OwnerOf x) v o k = k
other_place ex c h hs (ShapeOf x) v o k = k
other_place ex c h hs (PayloadOf x j) v o k = absurd (let z : true ≡ false = o in cc)

pub tricolour_other : (ex : Extent) (c : ℕ) (h : Heap) (hs : ℕ → TricolourInHand) (o : Operation) → is_of_tricolour (place_of o) ≡ false → TricolourKept ex c h hs → TricolourKept ex c (heap_after h o) hs
tricolour_other ex c h hs (Load p) away k = k
tricolour_other ex c h hs (Exchange p v) away k = other_place ex c h hs p v away k
tricolour_other ex c h hs (CompareExchange p old v) away k = elim (cases_Bool (eqb (h p) old)) [
  | inl is ↦ rw is (other_place ex c h hs p v away k)
  | inr is ↦ rw is k
]
tricolour_other ex c h hs (FetchAdd p v) away k = other_place ex c h hs p (h p + v) away k
tricolour_other ex c h hs (FetchSub p v) away k = other_place ex c h hs p (h p - v) away k

-- a black block gets a reference to a white one
pub store_breaks : (ex : Extent) (c : ℕ) (h : Heap) (hs : ℕ → TricolourInHand) (x j w : ℕ) → h (ColourOf x) ≡ black_word c → j < payloads ex.width → target w ≢ 0 → h (ColourOf (target w)) ≡ white_word c → TricolourKept ex c (put_at h (PayloadOf x j) w) hs → ⊥
store_breaks ex c h hs x j w black low some white k =
    let here : put_at h (PayloadOf x j) w (PayloadOf x j) ≡ w = rw (eq-eqb x x refl, eq-eqb j j refl) refl in
    subst (λ z. NotWhite c (colours h) (target z)) here (k.black x j black low) some white
