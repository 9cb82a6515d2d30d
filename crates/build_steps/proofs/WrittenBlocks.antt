-- What a part has written is until it is published.
use Rattle.std.proofs.Common.{◌≡◌, ℕ, zero, suc, ◌<◌, ◌≤◌, ◌+◌, ◌-◌, true, false, refl, arith, subst, sym, ap, inl, inr, eqb, ltb, eq-eqb, ne_eqb, ltb-true, ltb-false, List, [], ◌∷◌, length}
use Rattle.std.proofs.lemmas.Bool.{cases_Bool, cases_eq, and_left}
use Rattle.block_store.specs.declared.Config.{Config}
use Rattle.block_store.specs.declared.Width.{Width}
use Rattle.block_store.specs.Colours.{black_word, link}
use Rattle.block_store.specs.Heaps.{Heap, put_at}
use Rattle.block_store.specs.Widths.{payloads}
use Rattle.block_store.specs.Places.{Place, extent, same_place, Phase, Cursor, FreeCount, GreyList, FreeList, ColourOf, OwnerOf, ShapeOf, PayloadOf}
use Rattle.block_store.specs.Phases.{bit}
use Rattle.block_store.specs.Counts.{times}
use Rattle.heap_machine.specs.Operations.{heap_after}
use Rattle.never_heap.specs.declared.Command.{Command}
use Rattle.build_steps.specs.declared.rows.BuildRow.{BuildRow}
use Rattle.build_steps.specs.declared.rows.BuildRow.TheVariants.{ReadCount, Reserve, TakeFree, Collect, PutRest, WriteOwner, WriteShape, WritePayload, WriteColour, Publish, Built, Refused}
use Rattle.build_steps.proofs.Held.{stands_once}
use Rattle.build_steps.specs.Objects.{block_at}
use Rattle.build_steps.specs.Rows.{BuildState, built_at, built_owner, built_shape, built_payload, row_want, row_got, held_got, after_count, after_reserve, after_take, after_last, after_collect, after_payload, after_colour, build_want, build_got, building}
use Rattle.build_steps.specs.Fits.{RowFits, BuildFits}
use Rattle.build_steps.specs.LinearizationPoints.{is_publishing}
use Rattle.build_steps.specs.Standing.{IsWhole, IsBegun, left_of, begun_of, Stands, HeldOnce, is_of_block, IsElsewhere}

twice : (xs : List ℕ) (i j : ℕ) → i < j → j < length xs → block_at xs i ≡ block_at xs j
    → 2 ≤ times (block_at xs j) xs
twice [] i j less low e = absurd (omega arith)
twice (x ∷ xs) i zero less low e = absurd (omega arith)
twice (x ∷ xs) zero (suc j) less low e =
    let one : bit (eqb (block_at xs j) x) ≡ 1 = ap bit (eq-eqb (block_at xs j) x (sym e)) in
    omega (arith, stands_once xs j (omega arith))
twice (x ∷ xs) (suc i) (suc j) less low e =
    omega (arith, twice xs i j (omega arith) (omega arith) e)

-- where no block is held twice, distinct ordinals have distinct blocks
pub one_ordinal : (xs : List ℕ) (i j : ℕ) → HeldOnce xs → i < length xs → j < length xs
    → (i ≡ j → ⊥) → block_at xs i ≡ block_at xs j → ⊥
one_ordinal xs i j once ilow jlow ne e = elim (cases_Bool (ltb i j)) [
  | inl is ↦ absurd (omega (
    arith,
    once (block_at xs j),
    twice xs i j (ltb-true i j is) jlow e,
  ))
  | inr is ↦ absurd (omega (
    arith,
    once (block_at xs i),
    twice xs j i (let q = ltb-false i j is in omega arith) ilow (sym e),
  ))
]

-- no word of block y has this place
record Off (p : Place) (y : ℕ) : Type 0 where
  colour : same_place p (ColourOf y) ≡ false
  owner : same_place p (OwnerOf y) ≡ false
  shape : same_place p (ShapeOf y) ≡ false
  payload : (j : ℕ) → same_place p (PayloadOf y j) ≡ false

no_block : (p : Place) (y : ℕ) → same_place p (ColourOf y) ≡ false
    → same_place p (OwnerOf y) ≡ false → same_place p (ShapeOf y) ≡ false
    → ((j : ℕ) → same_place p (PayloadOf y j) ≡ false) → Off p y
no_block p y a b c d = record { colour = a; owner = b; shape = c; payload = d }

off_place : (p : Place) (y : ℕ) → is_of_block y p ≡ false → Off p y
off_place Phase y away = no_block Phase y refl refl refl (λ j. refl)
off_place Cursor y away = no_block Cursor y refl refl refl (λ j. refl)
off_place FreeCount y away = no_block FreeCount y refl refl refl (λ j. refl)
off_place (GreyList t) y away = no_block (GreyList t) y refl refl refl (λ j. refl)
off_place (FreeList t) y away = no_block (FreeList t) y refl refl refl (λ j. refl)
off_place (ColourOf x) y away = no_block (ColourOf x) y away refl refl (λ j. refl)
off_place (OwnerOf x) y away = no_block (OwnerOf x) y refl away refl (λ j. refl)
off_place (ShapeOf x) y away = no_block (ShapeOf x) y refl refl away (λ j. refl)
off_place (PayloadOf x i) y away =
    no_block (PayloadOf x i) y refl refl refl (λ j. and_left (eqb x y) (eqb i j) away)

module _ (w : Width) (h : Heap) (s : BuildState) (p : Place) (v : ℕ) where
  whole_off : (o : ℕ) → Off p (built_at s o) → IsWhole w h s o → IsWhole w (put_at h p v) s o
  whole_off o off k = record {
    owned = rw off.owner k.owned;
    shaped = rw off.shape k.shaped;
    links = λ j low. rw (off.payload j) (k.links j low);
    black = rw off.colour k.black;
  }

  begun_off : (o n : ℕ) → Off p (built_at s o) → IsBegun w h s o n
      → IsBegun w (put_at h p v) s o n
  begun_off o n off k = record {
    owned = λ some. rw off.owner (k.owned some);
    shaped = λ some. rw off.shape (k.shaped some);
    links = λ j low some. rw (off.payload j) (k.links j low some);
  }

pub whole_elsewhere : (w : Width) (h : Heap) (s : BuildState) (p : Place) (v o : ℕ)
    → is_of_block (built_at s o) p ≡ false → IsWhole w h s o → IsWhole w (put_at h p v) s o
whole_elsewhere w h s p v o away k =
    whole_off w h s p v o (off_place p (built_at s o) away) k

few_left : (c : Config) (k : ℕ) (held : List ℕ) (r : BuildRow) → RowFits c k held r
    → left_of k r ≤ k
few_left c k held (WriteOwner o) f = omega (arith, f.1)
few_left c k held (WriteShape o) f = omega (arith, f.1)
few_left c k held (WritePayload o j) f = omega (arith, f.0.1)
few_left c k held (WriteColour o) f = omega (arith, f.1)
few_left c k held Publish f = omega arith
few_left c k held Built f = omega arith
few_left c k held _ f = omega arith

leave : (w : Width) (h : Heap) (s : BuildState) (p : Place) (v : ℕ)
    → left_of s.blocks s.row ≤ s.blocks → IsElsewhere s p
    → Stands w h s → Stands w (put_at h p v) s
leave w h s p v few away k = record {
  whole = λ o from low.
      whole_off w h s p v o (off_place p (built_at s o) (away o low)) (k.whole o from low);
  begun = λ o last.
      begun_off w h s p v o (begun_of (payloads w) s.row)
      (off_place p (built_at s o) (away o (omega arith))) (k.begun o last);
}

-- a write of a place of no held block
pub others_leave : (c : Config) (h : Heap) (s : BuildState) (p : Place) (v : ℕ) → BuildFits c s
    → IsElsewhere s p → Stands c.width h s → Stands c.width (put_at h p v) s
others_leave c h s p v f away k =
    leave c.width h s p v (few_left c s.blocks s.held s.row f.row) away k

-- nothing is written yet
fresh : (w : Width) (h : Heap) (s : BuildState) → left_of s.blocks s.row ≡ s.blocks
    → begun_of (payloads w) s.row ≡ 0 → Stands w h s
fresh w h s all none = record {
  whole = λ o from low. absurd (omega arith);
  begun = λ o last. record {
    owned = λ some. absurd (omega arith);
    shaped = λ some. absurd (omega arith);
    links = λ j low some. absurd (omega arith);
  };
}

-- the state at a row, and the one that it becomes
abbrev at_row : BuildState → BuildRow → BuildState
at_row s r = record s { row = r }

-- what a block shows does not depend on the row
pub whole_row : (w : Width) (h : Heap) (s : BuildState) (o : ℕ) (r : BuildRow) → IsWhole w h s o
    → IsWhole w h (at_row s r) o
whole_row w h s o r k =
    record { owned = k.owned; shaped = k.shaped; links = k.links; black = k.black }

begun_row : (w : Width) (h : Heap) (s : BuildState) (o n : ℕ) (r : BuildRow) → IsBegun w h s o n
    → IsBegun w h (at_row s r) o n
begun_row w h s o n r k = record { owned = k.owned; shaped = k.shaped; links = k.links }

-- rows with nothing written: all ordinals are left, and no word of the last is written
record IsFresh (w : Width) (k : ℕ) (r : BuildRow) : Type 0 where
  all : left_of k r ≡ k
  none : begun_of (payloads w) r ≡ 0

fresh_row : (w : Width) (h : Heap) (s : BuildState) (held : List ℕ) (r : BuildRow)
    → IsFresh w s.blocks r → Stands w h (record s { held = held; row = r })
fresh_row w h s held r f = fresh w h (record s { held = held; row = r }) f.all f.none

fresh_last : (w : Width) (k a : ℕ) → 1 ≤ k → IsFresh w k (after_last k a)
fresh_last w k a some = elim (cases_Bool (eqb a 0)) [
  | inl is ↦ rw is (record { all = omega arith; none = refl })
  | inr is ↦ rw is (record { all = refl; none = refl })
]

fresh_count : (w : Width) (k v : ℕ) → IsFresh w k (after_count k v)
fresh_count w k v = elim (cases_Bool (ltb v k)) [
  | inl is ↦ rw is (record { all = refl; none = refl })
  | inr is ↦ rw is (record { all = refl; none = refl })
]

fresh_reserve : (w : Width) (k seen v : ℕ) → IsFresh w k (after_reserve seen v)
fresh_reserve w k seen v = elim (cases_Bool (eqb v seen)) [
  | inl is ↦ rw is (record { all = refl; none = refl })
  | inr is ↦ rw is (record { all = refl; none = refl })
]

fresh_take : (w : Width) (k n u v : ℕ) → IsFresh w k (after_take n u v)
fresh_take w k n u v = elim (cases_Bool (eqb v 0)) [
  | inl is ↦ rw is (record { all = refl; none = refl })
  | inr is ↦ rw is (record { all = refl; none = refl })
]

fresh_collect : (w : Width) (k n count a u : ℕ) → 1 ≤ k → IsFresh w k (after_collect k n count a u)
fresh_collect w k n count a u some = elim (cases_Bool (eqb count k)) [
  | inl is ↦ rw is (fresh_last w k a some)
  | inr more ↦ elim (cases_Bool (eqb a 0)) [
    | inl is ↦ rw (more, is) (record { all = refl; none = refl })
    | inr is ↦ rw (more, is) (record { all = refl; none = refl })
  ]
]

module _ (w : Width) (h : Heap) (s : BuildState) (o : ℕ) (once : HeldOnce s.held)
    (all : length s.held ≡ s.blocks) (here : o < s.blocks) where
  -- the blocks of other ordinals are others
  apart : (q : ℕ) → q < s.blocks → (o ≡ q → ⊥) → eqb (built_at s o) (built_at s q) ≡ false
  apart q low ne = ne_eqb (built_at s o) (built_at s q)
      (one_ordinal s.held o q once (omega arith) (omega arith) ne)

  -- one more word of the block of ordinal o is written
  goes_on : (p : Place) (v : ℕ) (r r' : BuildRow) → left_of s.blocks r ≡ suc o
      → left_of s.blocks r' ≡ suc o
      → ((q : ℕ) → q < s.blocks → (o ≡ q → ⊥) → is_of_block (built_at s q) p ≡ false)
      → IsBegun w (put_at h p v) s o (begun_of (payloads w) r')
      → Stands w h (at_row s r) → Stands w (put_at h p v) (at_row s r')
  goes_on p v r r' left left' away begun k = record {
    whole = λ q from low.
        whole_row w (put_at h p v) (at_row s r) q r' (whole_off w h (at_row s r) p v q
        (off_place p (built_at s q) (away q low (λ z. omega arith))) (k.whole q (omega arith) low));
    begun = λ q last.
        let same : o ≡ q = omega arith in
        subst (λ z. IsBegun w (put_at h p v) (at_row s r') z (begun_of (payloads w) r')) same
        (begun_row w (put_at h p v) s o (begun_of (payloads w) r') r' begun);
  }

  begun_here : (r : BuildRow) → left_of s.blocks r ≡ suc o → Stands w h (at_row s r)
      → IsBegun w h s o (begun_of (payloads w) r)
  begun_here r left k =
      begun_row w h (at_row s r) o (begun_of (payloads w) r) s.row (k.begun o (sym left))

  owner_step : Stands w h (at_row s (WriteOwner o))
      → Stands w (put_at h (OwnerOf (built_at s o)) (built_owner s o)) (at_row s (WriteShape o))
  owner_step k =
      goes_on (OwnerOf (built_at s o)) (built_owner s o) (WriteOwner o) (WriteShape o) (omega arith)
      (omega arith) (λ q low ne. apart q low ne)
      (record {
        owned = λ some. rw (eq-eqb (built_at s o) (built_at s o) refl) refl;
        shaped = λ some. absurd (omega arith);
        links = λ j low some. absurd (omega arith);
      }) k

  shape_step : Stands w h (at_row s (WriteShape o))
      → Stands w (put_at h (ShapeOf (built_at s o)) (built_shape s)) (at_row s (WritePayload o 0))
  shape_step k =
      let b = begun_here (WriteShape o) (omega arith) k in
      goes_on (ShapeOf (built_at s o)) (built_shape s) (WriteShape o) (WritePayload o 0)
      (omega arith)
      (omega arith) (λ q low ne. apart q low ne)
      (record {
        owned = λ some. b.owned (omega arith);
        shaped = λ some. rw (eq-eqb (built_at s o) (built_at s o) refl) refl;
        links = λ j low some. absurd (omega arith);
      }) k

  -- payload j is the next, and is among the first n words then
  payload_begun : (j n : ℕ) → n ≡ j + 3 → IsBegun w h s o (j + 2)
      → IsBegun w (put_at h (PayloadOf (built_at s o) j) (built_payload w s o j)) s o n
  payload_begun j n many b = record {
    owned = λ some. b.owned (omega arith);
    shaped = λ some. b.shaped (omega arith);
    links = λ i low some. elim (cases_eq j i) [
      | inl e ↦ rw (eq-eqb (built_at s o) (built_at s o) refl, eq-eqb j i e)
          (ap (λ z. built_payload w s o z) e)
      | inr ne ↦ rw (eq-eqb (built_at s o) (built_at s o) refl, ne_eqb j i ne)
          (b.links i low (omega arith))
    ];
  }

  payload_step : (j : ℕ) → j < payloads w → Stands w h (at_row s (WritePayload o j))
      → Stands w (put_at h (PayloadOf (built_at s o) j) (built_payload w s o j))
      (at_row s (after_payload (payloads w) o j))
  payload_step j low k =
      let b = begun_here (WritePayload o j) (omega arith) k in
      elim (cases_Bool (ltb (j + 1) (payloads w))) [
        | inl more ↦ rw more (goes_on (PayloadOf (built_at s o) j) (built_payload w s o j)
            (WritePayload o j) (WritePayload o (j + 1)) (omega arith) (omega arith)
            (λ q qlow ne. apart q qlow ne) (payload_begun j (j + 1 + 2) (omega arith) b) k)
        | inr last ↦
            let q = ltb-false (j + 1) (payloads w) last in
            rw last (goes_on (PayloadOf (built_at s o) j) (built_payload w s o j)
            (WritePayload o j) (WriteColour o) (omega arith) (omega arith)
            (λ q qlow ne. apart q qlow ne) (payload_begun j (payloads w + 2) (omega arith) b) k)
      ]

  -- all its words are written, and it becomes black
  colour_whole : Stands w h (at_row s (WriteColour o))
      → IsWhole w (put_at h (ColourOf (built_at s o)) (black_word s.cycle)) s o
  colour_whole k =
      let b = begun_here (WriteColour o) (omega arith) k in
      record {
        owned = b.owned (omega arith);
        shaped = b.shaped (omega arith);
        links = λ j low. b.links j low (omega arith);
        black = rw (eq-eqb (built_at s o) (built_at s o) refl) refl;
      }

  colour_goes : (r : BuildRow) → left_of s.blocks r ≡ o → begun_of (payloads w) r ≡ 0
      → Stands w h (at_row s (WriteColour o))
      → Stands w (put_at h (ColourOf (built_at s o)) (black_word s.cycle)) (at_row s r)
  colour_goes r left none k =
      let p = ColourOf (built_at s o) in
      let v = black_word s.cycle in
      record {
        whole = λ q from low. elim (cases_eq o q) [
          | inl e ↦ subst (λ z. IsWhole w (put_at h p v) (at_row s r) z) e
              (whole_row w (put_at h p v) s o r (colour_whole k))
          | inr ne ↦ whole_row w (put_at h p v) (at_row s (WriteColour o)) q r
              (whole_off w h (at_row s (WriteColour o)) p v q
              (off_place p (built_at s q) (apart q low ne)) (k.whole q (omega arith) low))
        ];
        begun = λ q last. record {
          owned = λ some. absurd (omega arith);
          shaped = λ some. absurd (omega arith);
          links = λ j low some. absurd (omega arith);
        };
      }

  colour_step : Stands w h (at_row s (WriteColour o))
      → Stands w (put_at h (ColourOf (built_at s o)) (black_word s.cycle))
      (at_row s (after_colour o))
  colour_step k = elim (cases_eq o 0) [
    | inl z ↦ rw (eq-eqb o 0 z) (colour_goes Publish (sym z) refl k)
    | inr nz ↦ rw (ne_eqb o 0 nz) (colour_goes (WriteOwner (o - 1)) (omega arith) refl k)
  ]

row_stands : (w : Width) (h : Heap) (s : BuildState) (c : Config) (r : BuildRow) (v : ℕ)
    → 1 ≤ s.blocks → HeldOnce s.held → RowFits c s.blocks s.held r → c.width ≡ w
    → is_publishing r ≡ false
    → Stands w h (at_row s r)
    → Stands w (heap_after h (row_want w s r))
    (record s { held = held_got s.held r; row = row_got w s r v })
row_stands w h s c ReadCount v some once f same on k =
    fresh_row w h s s.held (after_count s.blocks v) (fresh_count w s.blocks v)
row_stands w h s c (Reserve seen) v some once f same on k =
    fresh_row w (heap_after h (row_want w s (Reserve seen))) s s.held (after_reserve seen v)
    (fresh_reserve w s.blocks seen v)
row_stands w h s c (TakeFree u) v some once f same on k =
    fresh_row w (heap_after h (row_want w s (TakeFree u))) s s.held (after_take s.threads u v)
    (fresh_take w s.blocks s.threads u v)
row_stands w h s c (Collect a u) v some once f same on k =
    fresh_row w h s (held_got s.held (Collect a u)) (row_got w s (Collect a u) v)
    (fresh_collect w s.blocks s.threads (length s.held + 1) (link v) u some)
row_stands w h s c (PutRest a) v some once f same on k =
    fresh_row w (heap_after h (row_want w s (PutRest a))) s s.held (WriteOwner (s.blocks - 1))
    (record { all = omega arith; none = refl })
row_stands w h s c (WriteOwner o) v some once f same on k = owner_step w h s o once f.0 f.1 k
row_stands w h s c (WriteShape o) v some once f same on k = shape_step w h s o once f.0 f.1 k
row_stands w h s c (WritePayload o j) v some once f same on k =
    payload_step w h s o once f.0.0 f.0.1 j (subst (λ z. j < payloads z) same f.1) k
row_stands w h s c (WriteColour o) v some once f same on k = colour_step w h s o once f.0 f.1 k
row_stands w h s c Publish v some once f same on k = absurd (let z : true ≡ false = on in cc)
row_stands w h s c Built v some once f same on k = k
row_stands w h s c Refused v some once f same on k = k

pub keeps_standing : (c : Config) (h : Heap) (s : BuildState) (v : ℕ) → BuildFits c s
    → HeldOnce s.held → is_publishing s.row ≡ false → Stands c.width h s
    → Stands c.width (heap_after h (build_want (extent c) s)) (build_got (extent c) s v)
keeps_standing c h s v f once on k =
    row_stands c.width h s c s.row v f.some once f.row refl on k

pub first_stands : (w : Width) (h : Heap) (t n c serial : ℕ) (k : Command) (capacity : ℕ)
    → Stands w h (building w t n c serial k capacity)
first_stands w h t n c serial k capacity = fresh w h (building w t n c serial k capacity) refl refl
