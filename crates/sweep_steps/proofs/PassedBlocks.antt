-- Which events are units, and which blocks a part claims and passes.
use Rattle.std.proofs.Common.{◌≡◌, ℕ, suc, ◌<◌, ◌≤◌, ◌+◌, ◌-◌, ◌||◌, ◌++◌, Bool, true, false, is_some, List, [], ◌∷◌, length, Option, Some, None, cond, refl, arith, subst, sym, ap, ◌∙◌, inl, inr, eqb, ltb, ne_eqb, ltb-true, ltb-false, append-nil}
use Rattle.std.proofs.lemmas.List.{append_assoc}
use Rattle.std.proofs.lemmas.Bool.{cases_Bool, lt-ltb}
use Rattle.block_store.specs.declared.Config.{Config}
use Rattle.block_store.specs.Colours.{white_word}
use Rattle.block_store.specs.Phases.{bit}
use Rattle.sweep_steps.specs.declared.rows.SweepRow.{SweepRow}
use Rattle.sweep_steps.specs.declared.rows.SweepRow.TheVariants.{ReadCursor, ClaimRange, PassBlock, TakeFree, FreeBlock, PutFree, Credit, Swept, NothingLeft}
use Rattle.sweep_steps.specs.Rows.{SweepState, row_got, after_range, next_block, before_free, range_end, sweep_got, sweep_over, sweep_unit, sweep_passed, sweep_nothing, sweeping, sweep_in_hand}
use Rattle.sweep_steps.specs.SweepUnits.{row_passes, row_claims, is_reading, blocks_from, blocks_left, sweep_after, with_first, blocks_passed, blocks_claimed}
use Rattle.sweep_steps.specs.Fits.{IsLeft, RowFits, SweepFits}

-- what is so of both rows of a choice
either : (P : SweepRow → Type 0) (b : Bool) (p q : SweepRow) → P p → P q → P (cond b p q)
either P true p q a b = a
either P false p q a b = b

next_unit : (x high p a f : ℕ) → sweep_unit (next_block x high p a f) ≡ true
next_unit x high p a f = elim (cases_Bool (ltb (x + 1) high)) [
  | inl more ↦ rw more (lt-ltb 0 (p + 1) (omega arith))
  | inr last ↦ rw last (either (λ r. sweep_unit r ≡ true) (eqb f 0) (Swept (p + 1) 0)
      (PutFree a (p + 1) f) refl refl)
]

next_passed : (x high p a f : ℕ) → sweep_passed (next_block x high p a f) ≡ p + 1
next_passed x high p a f =
    either (λ r. sweep_passed r ≡ p + 1) (ltb (x + 1) high) (PassBlock (x + 1) high (p + 1) a f)
    (after_range (p + 1) a f) refl
    (either (λ r. sweep_passed r ≡ p + 1) (eqb f 0) (Swept (p + 1) 0)
    (PutFree a (p + 1) f) refl refl)

module _ (c m owed : ℕ) where
  row_unit : (r : SweepRow) (w : ℕ) → RowFits m owed r → sweep_over r ≡ false
      → sweep_unit (row_got c m owed r w) ≡ is_some (row_passes c r w)
  row_unit ReadCursor w f o =
      either (λ r. sweep_unit r ≡ false) (ltb m w) NothingLeft
      (ClaimRange w (range_end m owed w)) refl refl
  row_unit (ClaimRange x high) w f o =
      either (λ r. sweep_unit r ≡ false) (eqb w x) (PassBlock x high 0 0 0) ReadCursor refl refl
  row_unit (PassBlock x high p a g) w f o = elim (cases_Bool (eqb w (white_word c))) [
    | inl is ↦ rw is (either (λ r. sweep_unit r ≡ false) (eqb g 0) (TakeFree x high p)
        (FreeBlock x high p a g) refl refl)
    | inr is ↦ rw is (next_unit x high p a g)
  ]
  row_unit (TakeFree x high p) w f o = refl
  row_unit (FreeBlock x high p a g) w f o = next_unit x high p x (g + 1)
  row_unit (PutFree a p g) w f o = refl
  row_unit (Credit p g) w f o = let some = f.0 in ne_eqb g 0 (λ z. omega arith)
  row_unit (Swept p g) w f o = absurd (let z : true ≡ false = o in cc)
  row_unit NothingLeft w f o = absurd (let z : true ≡ false = o in cc)

  row_passed : (r : SweepRow) (w : ℕ)
      → sweep_passed (row_got c m owed r w)
      ≡ cond (is_some (row_passes c r w)) (sweep_passed r + 1) (sweep_passed r)
  row_passed ReadCursor w =
      either (λ r. sweep_passed r ≡ 0) (ltb m w) NothingLeft
      (ClaimRange w (range_end m owed w)) refl refl
  row_passed (ClaimRange x high) w =
      either (λ r. sweep_passed r ≡ 0) (eqb w x) (PassBlock x high 0 0 0) ReadCursor refl refl
  row_passed (PassBlock x high p a g) w = elim (cases_Bool (eqb w (white_word c))) [
    | inl is ↦ rw is (either (λ r. sweep_passed r ≡ p) (eqb g 0) (TakeFree x high p)
        (FreeBlock x high p a g) refl refl)
    | inr is ↦ rw is (next_passed x high p a g)
  ]
  row_passed (TakeFree x high p) w = refl
  row_passed (FreeBlock x high p a g) w = next_passed x high p x (g + 1)
  row_passed (PutFree a p g) w = refl
  row_passed (Credit p g) w = refl
  row_passed (Swept p g) w = refl
  row_passed NothingLeft w = refl

  next_found : (x high p a f : ℕ) → sweep_nothing (next_block x high p a f) ≡ false
  next_found x high p a f =
      either (λ r. sweep_nothing r ≡ false) (ltb (x + 1) high)
      (PassBlock (x + 1) high (p + 1) a f) (after_range (p + 1) a f) refl
      (either (λ r. sweep_nothing r ≡ false) (eqb f 0) (Swept (p + 1) 0)
      (PutFree a (p + 1) f) refl refl)

  row_nothing : (r : SweepRow) (w : ℕ)
      → sweep_nothing (row_got c m owed r w)
      ≡ (sweep_nothing r || (cond (is_reading r) (ltb m w) false))
  row_nothing ReadCursor w =
      elim (cases_Bool (ltb m w)) [ inl is ↦ rw is refl | inr is ↦ rw is refl ]
  row_nothing (ClaimRange x high) w =
      either (λ r. sweep_nothing r ≡ false) (eqb w x)
      (PassBlock x high 0 0 0) ReadCursor refl refl
  row_nothing (PassBlock x high p a g) w =
      either (λ r. sweep_nothing r ≡ false) (eqb w (white_word c)) (before_free x high p a g)
      (next_block x high p a g)
      (either (λ r. sweep_nothing r ≡ false) (eqb g 0) (TakeFree x high p)
      (FreeBlock x high p a g) refl refl) (next_found x high p a g)
  row_nothing (TakeFree x high p) w = refl
  row_nothing (FreeBlock x high p a g) w = next_found x high p x (g + 1)
  row_nothing (PutFree a p g) w = refl
  row_nothing (Credit p g) w = refl
  row_nothing (Swept p g) w = refl
  row_nothing NothingLeft w = refl

pub unit_passes : (c : Config) (s : SweepState) (w : ℕ) → SweepFits c s → sweep_over s.row ≡ false
    → sweep_unit (sweep_got s w).row ≡ is_some (row_passes s.cycle s.row w)
unit_passes c s w f o = row_unit s.cycle s.blocks s.owed s.row w
    (subst (λ m. RowFits m s.owed s.row) (sym f.blocks) f.row) o

pub passed_counts : (s : SweepState) (w : ℕ)
    → sweep_passed (sweep_got s w).row
    ≡ cond (is_some (row_passes s.cycle s.row w)) (sweep_passed s.row + 1) (sweep_passed s.row)
passed_counts s w = row_passed s.cycle s.blocks s.owed s.row w

pub nothing_read : (s : SweepState) (w : ℕ)
    → sweep_nothing (sweep_got s w).row
    ≡ (sweep_nothing s.row || (cond (is_reading s.row) (ltb s.blocks w) false))
nothing_read s w = row_nothing s.cycle s.blocks s.owed s.row w

-- at most eight blocks are passed, and at most as many as were owed
pub passed_few : (c : Config) (s : SweepState) → SweepFits c s
    → (sweep_passed s.row ≤ 8) × (sweep_passed s.row ≤ s.owed)
passed_few c s f = few_row c.blocks s.owed s.row f.row where
  left_few : (m owed x high p : ℕ) → IsLeft m owed x high p → (p ≤ 8) × (p ≤ owed)
  left_few m owed x high p f = let a = f.left in let b = f.few in let d = f.due in
      (omega arith, omega arith)

  few_row : (m owed : ℕ) (r : SweepRow) → RowFits m owed r
      → (sweep_passed r ≤ 8) × (sweep_passed r ≤ owed)
  few_row m owed ReadCursor f = (omega arith, omega arith)
  few_row m owed (ClaimRange x high) f = (omega arith, omega arith)
  few_row m owed (PassBlock x high p a g) f = left_few m owed x high p f.0
  few_row m owed (TakeFree x high p) f = left_few m owed x high p f
  few_row m owed (FreeBlock x high p a g) f = left_few m owed x high p f.0
  few_row m owed (PutFree a p g) f = (f.4, f.5)
  few_row m owed (Credit p g) f = (f.2, f.3)
  few_row m owed (Swept p g) f = (f.2, f.3)
  few_row m owed NothingLeft f = (omega arith, omega arith)

pub passed_bits : (s : SweepState) (w : ℕ)
    → sweep_passed (sweep_got s w).row
    ≡ sweep_passed s.row + bit (is_some (row_passes s.cycle s.row w))
passed_bits s w = passed_counts s w
    ∙ one (is_some (row_passes s.cycle s.row w)) (sweep_passed s.row) where
      one : (b : Bool) (n : ℕ) → cond b (n + 1) n ≡ n + bit b
      one true n = refl
      one false n = omega arith

-- with what is left of the range, at most as many as were owed
pub claimed_due : (c : Config) (s : SweepState) → SweepFits c s
    → (sweep_in_hand s.row).high + sweep_passed s.row ≤ (sweep_in_hand s.row).low + s.owed
claimed_due c s f = due_row c.blocks s.owed s.row f.row where
  due_row : (m owed : ℕ) (r : SweepRow) → RowFits m owed r
      → (sweep_in_hand r).high + sweep_passed r ≤ (sweep_in_hand r).low + owed
  due_row m owed ReadCursor f = omega arith
  due_row m owed (ClaimRange x high) f = omega arith
  due_row m owed (PassBlock x high p a g) f = f.0.due
  due_row m owed (TakeFree x high p) f = f.due
  due_row m owed (FreeBlock x high p a g) f = f.0.due
  due_row m owed (PutFree a p g) f = (let z = f.5 in omega arith)
  due_row m owed (Credit p g) f = (let z = f.3 in omega arith)
  due_row m owed (Swept p g) f = (let z = f.3 in omega arith)
  due_row m owed NothingLeft f = omega arith

-- as many blocks were passed as the row says
pub passed_length : (s : SweepState) (ws : List ℕ)
    → sweep_passed s.row + length (blocks_passed s ws) ≡ sweep_passed (sweep_after s ws).row
passed_length s [] = omega arith
passed_length s (w ∷ ws) =
    let rest = passed_length (sweep_got s w) ws in
    first (row_passes s.cycle s.row w) (sweep_passed s.row) (sweep_passed (sweep_got s w).row)
    (blocks_passed (sweep_got s w) ws) (passed_counts s w) ∙ rest where
      first : (o : Option ℕ) (a b : ℕ) (xs : List ℕ) → b ≡ cond (is_some o) (a + 1) a
          → a + length (with_first o xs) ≡ b + length xs
      first None a b xs e = omega (arith, e)
      first (Some x) a b xs e = omega (arith, e)

-- some block is left of a range that is claimed
abbrev IsSome : SweepRow → Type 0
IsSome (ClaimRange x high) = x < high
IsSome (PassBlock x high p a f) = x < high
IsSome (TakeFree x high p) = x < high
IsSome (FreeBlock x high p a f) = x < high
IsSome _ = Unit {0}

next_some : (x high p a f : ℕ) → IsSome (next_block x high p a f)
next_some x high p a f = elim (cases_Bool (ltb (x + 1) high)) [
  | inl more ↦ rw more (ltb-true (x + 1) high more)
  | inr last ↦ rw last (either IsSome (eqb f 0) (Swept (p + 1) 0) (PutFree a (p + 1) f) tt tt)
]

module _ (c m owed : ℕ) (due : 1 ≤ owed) where
  row_some : (r : SweepRow) (w : ℕ) → IsSome r → IsSome (row_got c m owed r w)
  row_some ReadCursor w f = elim (cases_Bool (ltb m w)) [
    | inl is ↦ rw is tt
    | inr is ↦ rw is (let q = ltb-false m w is in omega arith)
  ]
  row_some (ClaimRange x high) w f =
      either IsSome (eqb w x) (PassBlock x high 0 0 0) ReadCursor f tt
  row_some (PassBlock x high p a g) w f =
      either IsSome (eqb w (white_word c)) (before_free x high p a g) (next_block x high p a g)
      (either IsSome (eqb g 0) (TakeFree x high p) (FreeBlock x high p a g) f f)
      (next_some x high p a g)
  row_some (TakeFree x high p) w f = f
  row_some (FreeBlock x high p a g) w f = next_some x high p x (g + 1)
  row_some (PutFree a p g) w f = tt
  row_some (Credit p g) w f = tt
  row_some (Swept p g) w f = tt
  row_some NothingLeft w f = tt

  -- the blocks from x on are x and those after it
  from_next : (x high p a f : ℕ) → x < high
      → blocks_from x (high - x) ≡ x ∷ blocks_left (next_block x high p a f)
  from_next x high p a f some = elim (cases_Bool (ltb (x + 1) high)) [
    | inl more ↦
        let n : high - x ≡ suc (high - (x + 1)) = omega arith in
        rw (more, n) refl
    | inr last ↦
        let q = ltb-false (x + 1) high last in
        let n : high - x ≡ 1 = omega arith in
        rw (last, n) (ap (λ ys. x ∷ ys)
        (sym (either (λ r. blocks_left r ≡ []) (eqb f 0) (Swept (p + 1) 0)
        (PutFree a (p + 1) f) refl refl)))
  ]

  -- one event passes the first of the blocks that are left, or claims some
  row_left : (r : SweepRow) (w : ℕ) → IsSome r
      → blocks_left r ++ row_claims r w
      ≡ with_first (row_passes c r w) (blocks_left (row_got c m owed r w))
  row_left ReadCursor w f =
      sym (either (λ r. blocks_left r ≡ []) (ltb m w) NothingLeft
      (ClaimRange w (range_end m owed w)) refl refl)
  row_left (ClaimRange x high) w f =
      elim (cases_Bool (eqb w x)) [ inl is ↦ rw is refl | inr is ↦ rw is refl ]
  row_left (PassBlock x high p a g) w f = elim (cases_Bool (eqb w (white_word c))) [
    | inl is ↦ rw is (append-nil (blocks_from x (high - x))
        ∙ sym (either (λ r. blocks_left r ≡ blocks_from x (high - x)) (eqb g 0)
        (TakeFree x high p) (FreeBlock x high p a g) refl refl))
    | inr is ↦ rw is (append-nil (blocks_from x (high - x)) ∙ from_next x high p a g f)
  ]
  row_left (TakeFree x high p) w f = append-nil (blocks_from x (high - x))
  row_left (FreeBlock x high p a g) w f =
      append-nil (blocks_from x (high - x)) ∙ from_next x high p x (g + 1) f
  row_left (PutFree a p g) w f = refl
  row_left (Credit p g) w f = refl
  row_left (Swept p g) w f = refl
  row_left NothingLeft w f = refl

in_front : (o : Option ℕ) (xs ys : List ℕ) → with_first o (xs ++ ys) ≡ with_first o xs ++ ys
in_front None xs ys = refl
in_front (Some x) xs ys = refl

-- what was left and what is claimed is what is passed and what is left then
left_after : (s : SweepState) (ws : List ℕ) → 1 ≤ s.owed → IsSome s.row
    → blocks_left s.row ++ blocks_claimed s ws
    ≡ blocks_passed s ws ++ blocks_left (sweep_after s ws).row
left_after s [] due some = append-nil (blocks_left s.row)
left_after s (w ∷ ws) due some =
    let n : SweepState = sweep_got s w in
    let o = row_passes s.cycle s.row w in
    let rest = left_after n ws due (row_some s.cycle s.blocks s.owed due s.row w some) in
    sym (append_assoc (blocks_left s.row) (row_claims s.row w) (blocks_claimed n ws))
    ∙ ap (λ xs. xs ++ blocks_claimed n ws) (row_left s.cycle s.blocks s.owed due s.row w some)
    ∙ sym (in_front o (blocks_left n.row) (blocks_claimed n ws))
    ∙ ap (with_first o) rest
    ∙ in_front o (blocks_passed n ws) (blocks_left (sweep_after n ws).row)

pub claimed_after : (t c m owed : ℕ) (ws : List ℕ) → 1 ≤ owed
    → blocks_claimed (sweeping t c m owed) ws
    ≡ blocks_passed (sweeping t c m owed) ws ++ blocks_left
    (sweep_after (sweeping t c m owed) ws).row
claimed_after t c m owed ws due = left_after (sweeping t c m owed) ws due tt

none_left : (r : SweepRow) → sweep_over r ≡ true → blocks_left r ≡ []
none_left (Swept p f) o = refl
none_left NothingLeft o = refl
none_left _ o = absurd cc

pub passed_all : (t c m owed : ℕ) (ws : List ℕ) → 1 ≤ owed
    → sweep_over (sweep_after (sweeping t c m owed) ws).row ≡ true
    → blocks_passed (sweeping t c m owed) ws ≡ blocks_claimed (sweeping t c m owed) ws
passed_all t c m owed ws due o =
    let s : SweepState = sweeping t c m owed in
    sym (append-nil (blocks_passed s ws))
    ∙ ap (λ xs. blocks_passed s ws ++ xs) (sym (none_left (sweep_after s ws).row o))
    ∙ sym (claimed_after t c m owed ws due)

pub passed_many : (t c m owed : ℕ) (ws : List ℕ)
    → length (blocks_passed (sweeping t c m owed) ws)
    ≡ sweep_passed (sweep_after (sweeping t c m owed) ws).row
passed_many t c m owed ws = omega (arith, passed_length (sweeping t c m owed) ws)

-- the range that is claimed
abbrev IsOneRange : ℕ → ℕ → List ℕ → Type 0
IsOneRange m owed xs = (x : ℕ) × (n : ℕ) × (xs ≡ blocks_from x n) × (n ≤ 8) × (n ≤ owed)
    × (x + n ≤ m + 1)

-- a row that claims nothing more
abbrev is_claimed : SweepRow → Bool
is_claimed ReadCursor = false
is_claimed (ClaimRange x high) = false
is_claimed _ = true

next_claimed : (x high p a f : ℕ) → is_claimed (next_block x high p a f) ≡ true
next_claimed x high p a f =
    either (λ r. is_claimed r ≡ true) (ltb (x + 1) high) (PassBlock (x + 1) high (p + 1) a f)
    (after_range (p + 1) a f) refl
    (either (λ r. is_claimed r ≡ true) (eqb f 0) (Swept (p + 1) 0) (PutFree a (p + 1) f) refl refl)

row_claimed : (c m owed : ℕ) (r : SweepRow) (w : ℕ) → is_claimed r ≡ true
    → (is_claimed (row_got c m owed r w) ≡ true) × (row_claims r w ≡ [])
row_claimed c m owed ReadCursor w is = absurd (let z : false ≡ true = is in cc)
row_claimed c m owed (ClaimRange x high) w is = absurd (let z : false ≡ true = is in cc)
row_claimed c m owed (PassBlock x high p a g) w is = (
  either (λ r. is_claimed r ≡ true) (eqb w (white_word c)) (before_free x high p a g)
      (next_block x high p a g)
      (either (λ r. is_claimed r ≡ true) (eqb g 0) (TakeFree x high p)
      (FreeBlock x high p a g) refl refl) (next_claimed x high p a g),
  refl,
)
row_claimed c m owed (TakeFree x high p) w is = (refl, refl)
row_claimed c m owed (FreeBlock x high p a g) w is = (next_claimed x high p x (g + 1), refl)
row_claimed c m owed (PutFree a p g) w is = (refl, refl)
row_claimed c m owed (Credit p g) w is = (refl, refl)
row_claimed c m owed (Swept p g) w is = (refl, refl)
row_claimed c m owed NothingLeft w is = (refl, refl)

claims_no_more : (s : SweepState) (ws : List ℕ) → is_claimed s.row ≡ true → blocks_claimed s ws ≡ []
claims_no_more s [] is = refl
claims_no_more s (w ∷ ws) is =
    let n = row_claimed s.cycle s.blocks s.owed s.row w is in
    ap (λ xs. xs ++ blocks_claimed (sweep_got s w) ws) n.1 ∙ claims_no_more (sweep_got s w) ws n.0

module _ (t c m owed : ℕ) where
  abbrev at : SweepRow → SweepState
  at r = record { thread = t; cycle = c; blocks = m; owed = owed; row = r }

  -- of a row that has claimed nothing yet
  abbrev Claims : List ℕ → Type 0
  Claims ws = IsOneRange m owed (blocks_claimed (at ReadCursor) ws)
      × ((x high : ℕ) → high ≤ x + 8 → high ≤ x + owed → high ≤ m + 1 → x ≤ m
      → IsOneRange m owed (blocks_claimed (at (ClaimRange x high)) ws))

  nothing_claimed : IsOneRange m owed []
  nothing_claimed = (0, 0, refl, omega arith, omega arith, omega arith)

  claims : (ws : List ℕ) → Claims ws
  claims [] = (nothing_claimed, λ x high few due last low. nothing_claimed)
  claims (w ∷ ws) =
      let rest = claims ws in (
        elim (cases_Bool (ltb m w)) [
          | inl is ↦ rw is (subst (IsOneRange m owed)
              (sym (claims_no_more (at NothingLeft) ws refl)) nothing_claimed)
          | inr is ↦ rw is (let q = ltb-false m w is in
              rest.1 w (range_end m owed w) (omega arith) (omega arith) (omega arith) q)
        ],
        λ x high few due last low. elim (cases_Bool (eqb w x)) [
          | inl is ↦ rw is (subst (λ xs. IsOneRange m owed (blocks_from x (high - x) ++ xs))
              (sym (claims_no_more (at (PassBlock x high 0 0 0)) ws refl)) (
                x,
                high - x,
                append-nil (blocks_from x (high - x)),
                omega arith,
                omega arith,
                omega arith,
              ))
          | inr is ↦ rw is rest.0
        ],
      )

pub one_range : (t c m owed : ℕ) (ws : List ℕ)
    → IsOneRange m owed (blocks_claimed (sweeping t c m owed) ws)
one_range t c m owed ws = (claims t c m owed ws).0
