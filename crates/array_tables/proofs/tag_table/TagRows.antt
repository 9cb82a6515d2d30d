-- The table of tags, row by row: what is known before each row, and that each row keeps it.
use Rattle.std.proofs.Common.{◌≡◌, ℕ, ◌+◌, ◌<◌, true, Option, Some, None, List, [], ◌∷◌, ◌++◌, length, append_assoc, refl, ap, ◌∙◌, arith}
use Rattle.std.specs.Prelude.{flat_map, slice_index_or}
use Rattle.block_store.specs.declared.Value.{Value}
use Rattle.block_store.specs.declared.Value.TheVariants.{Int}
use Rattle.never_heap.specs.declared.Reply.{Reply}
use Rattle.never_heap.specs.Steps.{step}
use Rattle.array_tables.specs.declared.tag_table.operation.Operation.{Operation}
use Rattle.array_tables.specs.declared.tag_table.operation.Operation.TheVariants.{Write, Clear, Read}
use Rattle.array_tables.specs.tag_table.Tables.{Tag, answer, table_after, Row, Make, SetValue, PutValue, SetQuality, PutQuality, Publish, Blank, Withdraw, Fetch, TellValue, TellQuality, rows_of, command_at, decides, ends, pair_of, pair_behind, pair_told, AreInTable, tag_config}
use Rattle.array_tables.specs.operations.Applications.{ops_in}
use Rattle.array_tables.proofs.operations.Applied.{Owes}
use Rattle.array_tables.proofs.operations.Pairs.{◌▸◌}
use Rattle.array_tables.proofs.operations.RecordRows.{RecordRows, recorded, limit, weights, nil_shown, nil_rests, finish_own, finish_nil, field_told, field_on, field_last}
use Rattle.array_tables.proofs.operations.Records.{IsSlim, HasField, plain_numbers, reply_by}
use Rattle.array_tables.proofs.operations.RowRules.{Says, news, sets, puts_in, fetches, swaps_in, tells_what}
use Rattle.array_tables.proofs.operations.Turns.{Before, Goes, place}
use Rattle.array_tables.proofs.operations.Tables.{Empty, Number, Own, Shown, Hold, Is, Has, Spot, nowhere, making, telling, Table, spot_of, IsProper}
use Rattle.array_tables.proofs.operations.Weights.{all_light}

-- a tag is shown by a record of its value and its quality
abbrev pub shape : Tag → Option (List Value)
shape None = None
shape (Some p) = Some (Int p.0 ∷ Int p.1 ∷ [])

pub slim : (c : Tag) → IsSlim (shape c)
slim None = tt
slim (Some p) = (omega arith, plain_numbers (p.0 ∷ p.1 ∷ []))

has_quality : (c : Tag) → HasField (shape c) 1
has_quality None = tt
has_quality (Some p) = omega arith

has_value : (c : Tag) → HasField (shape c) 0
has_value None = tt
has_value (Some p) = omega arith

-- ---- the table

abbrev follow : Row → Option Row
follow (Make i v q) = Some (SetValue i v q)
follow (SetValue i v q) = Some (PutValue i v q)
follow (PutValue i v q) = Some (SetQuality i v q)
follow (SetQuality i v q) = Some (PutQuality i v q)
follow (PutQuality i v q) = Some (Publish i v q)
follow (Blank i) = Some (Withdraw i)
follow TellValue = Some TellQuality
follow TellQuality = None
follow _ = Some TellValue

-- a value in register 2, and then a quality
abbrev filled : ℕ → List (ℕ × Hold Tag (Unit {0}))
filled v = (2, Is (Number v)) ∷ (1, Is (Own 0)) ∷ []

abbrev before : Row → Tag → Spot Tag Tag (Unit {0})
before (SetValue i v q) c = making ((1, Is (Own 0)) ∷ []) ((Empty ∷ Empty ∷ []) ∷ [])
before (PutValue i v q) c = making (filled v) ((Empty ∷ Empty ∷ []) ∷ [])
before (SetQuality i v q) c = making (filled v) ((Number v ∷ Empty ∷ []) ∷ [])
before (PutQuality i v q) c = making ((2, Is (Number q)) ∷ filled v) ((Number v ∷ Empty ∷ []) ∷ [])
before (Publish i v q) c = making ((2, Is (Number q)) ∷ filled v) ((Number v ∷ Number q ∷ []) ∷ [])
before (Withdraw i) c = making ((1, Is Empty) ∷ []) []
before TellValue c = telling ((1, Has (Shown c)) ∷ []) c []
before TellQuality c = telling ((1, Has (Shown c)) ∷ []) c (reply_by (shape c) 0 ∷ [])
before _ c = nowhere

abbrev next : ℕ → Row → ℕ
next l (Publish i v q) = l + 1
next l _ = l

abbrev Fits : ℕ → Row → Type 0
Fits tags (Publish i v q) = i < tags
Fits tags (Withdraw i) = i < tags
Fits tags (Fetch i) = i < tags
Fits tags _ = Unit {0}

pub light : (row : Row) (c : Tag)
    → all_light 1 (λ (x : Unit {0}). 0) limit (before row c).made (before row c).puts ≡ true
light (Make i v q) c = refl
light _ c = refl

pub same_made : (row : Row) (c e : Tag) → length (before row c).made ≡ length (before row e).made
same_made (Make i v q) c e = refl
same_made _ c e = refl

abbrev pub table : ℕ → RecordRows Operation Row Tag Tag
table tags = record {
  size = tags;
  command_at = command_at;
  decides = decides;
  ends = ends;
  say = answer;
  act = table_after;
  none = None;
  shape = shape;
  slim = slim;
  no_shape = refl;
  before = before;
  follow = follow;
  Fits = Fits tags;
  next = next;
  same_made = same_made;
  light = light;
}

abbrev pub tagged : ℕ → Table Operation Row Tag Tag (Unit {0}) ℕ
tagged tags = recorded (table tags)

-- ---- the rows

-- the last two replies make the pair, whatever replies come before them
behind : (a b x y : Reply) (before : List Reply)
    → pair_behind a b (before ++ x ∷ y ∷ []) ≡ pair_of x y
behind a b x y [] = refl
behind a b x y (c ∷ before) = behind b c x y before

last_two : (before : List Reply) (x y : Reply)
    → pair_told ((before ++ x ∷ []) ++ y ∷ []) ≡ pair_of x y
last_two [] x y = refl
last_two (a ∷ []) x y = refl
last_two (a ∷ b ∷ before) x y =
    ap (pair_behind a b) (append_assoc before (x ∷ []) (y ∷ [])) ∙ behind a b x y before

pair_again : (tag : Tag) → pair_of (reply_by (shape tag) 0) (reply_by (shape tag) 1) ≡ tag
pair_again None = refl
pair_again (Some p) = refl

module _ (tags : ℕ) where
  goes : (row : Row) (b : Before (tagged tags) row) → Goes b
  goes (Make i v q) b = news b 1 2 refl refl (λ c. refl) (refl, refl, λ l. refl)
  goes (SetValue i v q) b =
      sets b 2 (Number v) refl (λ g t o. refl) (λ c. refl) (refl, refl, λ l. refl)
  goes (PutValue i v q) b =
      puts_in b 1 0 2 0 (Number v) (omega arith) (omega arith) refl (λ r c. refl)
      (λ r c. refl) (λ c. refl) (λ c. refl) (refl, refl, λ l. refl)
  goes (SetQuality i v q) b =
      sets b 2 (Number q) refl (λ g t o. refl) (λ c. refl) (refl, refl, λ l. refl)
  goes (PutQuality i v q) b =
      puts_in b 1 1 2 0 (Number q) (omega arith) (omega arith) refl (λ r c. refl)
      (λ r c. refl) (λ c. refl) (λ c. refl) (refl, refl, λ l. refl)
  goes (Publish i v q) b =
      swaps_in b i 1 (Some (v, q)) refl
      (place b).proper.0.0 refl refl refl (λ c. refl) (λ l c. refl)
      (finish_own (table tags) b (Some (v, q)) (Number v ∷ Number q ∷ []) (λ c. refl) (λ c. refl)
      (λ r c. refl) (λ t o. refl))
  goes (Blank i) b = sets b 1 Empty refl (λ g t o. refl) (λ c. refl) (refl, refl, λ l. refl)
  goes (Withdraw i) b =
      swaps_in b i 1 None refl (place b).proper.0.0 refl refl refl (λ c. refl) (λ l c. omega arith)
      (finish_nil (table tags) b None (λ c. refl) (λ r c. refl) refl)
  goes (Fetch i) b = fetches b 1 i refl (place b).proper.0.0 refl refl refl (λ l. refl) (λ c. refl)
  goes TellValue b =
      field_on (table tags) b 2 0 refl refl has_value (λ r c. refl) (λ c. refl)
      (refl, refl, λ l. refl) (λ c. refl)
  goes TellQuality b =
      field_last (table tags) b 3 1 refl refl has_quality (λ r c. refl)
      (λ c. refl) refl pair_told refl refl (λ l. refl) (λ c. refl) refl (λ c. refl)

  -- the last row of an operation answers what was decided
  tells : (row : Row) (b : Before (tagged tags) row) → Says b
  tells TellQuality b =
      let p = place b in
      let heard = field_told (table tags) b 3 1 refl refl has_quality (λ r c. refl) (λ c. refl) in
      tells_what b pair_told p.cell refl refl
      (last_two p.replies (reply_by (shape p.cell) 0) (step b.g b.t (command_at TellQuality)).1
      ∙ ap (λ z. pair_of (reply_by (shape p.cell) 0) z.1) heard.stepped ∙ pair_again p.cell)
  tells _ b = tt

-- ---- scripts

pub whole : (op : Operation) (more : List Row)
    → ops_in decides (rows_of op ++ more) ≡ op ∷ ops_in decides more
whole (Write i v q) more = refl
whole _ more = refl

at_first : (tags : ℕ) (ops : List Operation) (c : Tag)
    → spot_of (tagged tags) (flat_map rows_of ops) c ≡ nowhere
at_first tags [] c = refl
at_first tags (Write i v q ∷ ops) c = refl
at_first tags (op ∷ ops) c = refl

proper : (tags l : ℕ) (ops : List Operation) → AreInTable tags ops → (t : ℕ)
    → IsProper (tagged tags) t l (flat_map rows_of ops)
proper tags l [] low t = tt
proper tags l (Write i v q ∷ ops) low t =
    (tt, λ c. refl) ▸ (tt, λ c. refl) ▸ (tt, λ c. refl) ▸ (tt, λ c. refl) ▸ (tt, λ c. refl)
    ▸ (low.0, λ c. refl) ▸ (tt, λ c. refl) ▸ (tt, at_first tags ops)
    ▸ proper tags (l + 1) ops low.1 t
proper tags l (Clear i ∷ ops) low t =
    (tt, λ c. refl) ▸ (low.0, λ c. refl) ▸ (tt, λ c. refl) ▸ (tt, at_first tags ops)
    ▸ proper tags l ops low.1 t
proper tags l (Read i ∷ ops) low t =
    (low.0, λ c. refl) ▸ (tt, λ c. refl) ▸ (tt, at_first tags ops) ▸ proper tags l ops low.1 t

pub tags_owe : (n tags blocks : ℕ) (scripts : List (List Operation)) → length scripts ≡ n
    → ((t : ℕ) → AreInTable tags (slice_index_or scripts t []))
    → Owes (tagged tags) (tag_config n tags blocks) rows_of scripts
tags_owe n tags blocks scripts count low = record {
  eight = refl;
  shared = refl;
  count = count;
  whole = whole;
  first = 0;
  none_finished = refl;
  at_first = λ t c. at_first tags (slice_index_or scripts t []) c;
  proper = λ t. proper tags 0 (slice_index_or scripts t []) (low t) t;
  nil_shown = nil_shown (table tags);
  nil_rests = nil_rests (table tags);
  weights = weights (table tags);
  fits = omega arith;
  goes = goes tags;
  tells = tells tags;
}
