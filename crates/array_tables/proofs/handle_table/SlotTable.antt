-- The table of the slots: what is known before each row of handles.
use Rattle.std.proofs.Common.{◌≡◌, ℕ, ◌+◌, ◌*◌, ◌<◌, ◌&&◌, true, Option, Some, None, List, [], ◌∷◌, length, refl, ap, ◌∙◌}
use Rattle.array_tables.proofs.operations.Records.{reply_by}
use Rattle.array_tables.proofs.operations.Tables.{Sym, Empty, Number, Own, Shown, Meant, Hold, Is, Has, Spot, nowhere, making, telling, Table}
use Rattle.array_tables.proofs.operations.Weights.{Weights, light_own, all_light}
use Rattle.array_tables.specs.handle_table.Handles.{Deed, Answer, Matched, Found, Slot, id, holds, shown, answer, slots_after, Row, NewItem, SetNumber, PutNumber, NewBox, PutItem, SetId, PutId, Clean, Claim, Look, Compare, Calm, Release, Fetch, Blank, Withdraw, TellId, TellItem, TellNumber, command_at, decides, ends, last_after}
use Rattle.array_tables.proofs.handle_table.Boxes.{Shows, Other, Item, Means, shows_move, means_move, box_shape, two, rest, limit, weigh, rests_light, handle_limit, of_shown, of_meant}

abbrev follow : Row → Option Row
follow (NewItem u j h i x) = Some (SetNumber u j h i x)
follow (SetNumber u j h i x) = Some (PutNumber u j h i x)
follow (PutNumber u j h i x) = Some (NewBox u j h i x)
follow (NewBox u j h i x) = Some (PutItem u j h i x)
follow (PutItem u j h i x) = Some (SetId u j h i x)
follow (SetId u j h i x) = Some (PutId u j h i x)
follow (PutId u j h i x) = Some (Clean u j h i x)
follow (Clean u j h i x) = Some (Claim u j h i x)
follow (Look u j h i) = Some (Compare u j h i)
follow (Calm u j h i) = Some (Release u j h i)
follow (Fetch i) = Some TellId
follow (Blank i) = Some (Withdraw i)
follow (Withdraw i) = Some TellId
follow TellId = Some TellItem
follow TellItem = Some TellNumber
follow _ = None

-- an item in register 1 and its number in register 2; then the box in the register of h, and its id
abbrev pub item_in : ℕ → List (ℕ × Hold Slot Other)
item_in x = (2, Is (Number x)) ∷ (1, Is (Own 0)) ∷ []

abbrev pub box_in : ℕ → ℕ → List (ℕ × Hold Slot Other)
box_in h x = (4 + h, Is (Own 1)) ∷ item_in x

abbrev pub before : Row → Slot → Spot Answer Slot Other
before (SetNumber u j h i x) c = making ((1, Is (Own 0)) ∷ []) ((Empty ∷ []) ∷ [])
before (PutNumber u j h i x) c = making (item_in x) ((Empty ∷ []) ∷ [])
before (NewBox u j h i x) c = making (item_in x) ((Number x ∷ []) ∷ [])
before (PutItem u j h i x) c = making (box_in h x) (two x Empty Empty)
before (SetId u j h i x) c = making (box_in h x) (two x (Own 0) Empty)
before (PutId u j h i x) c = making ((2, Is (Number (id u j))) ∷ box_in h x) (two x (Own 0) Empty)
before (Clean u j h i x) c =
    making ((2, Is (Number (id u j))) ∷ box_in h x) (two x (Own 0) (Number (id u j)))
before (Claim u j h i x) c =
    making ((2, Is Empty) ∷ (2, Is (Number (id u j))) ∷ box_in h x)
    (two x (Own 0) (Number (id u j)))
before (Compare u j h i) c = telling ((1, Has (Shown c)) ∷ []) (Matched (holds c u j)) []
before (Release u j h i) c = making ((2, Is Empty) ∷ []) []
before (Withdraw i) c = making ((1, Is Empty) ∷ []) []
before TellId c = telling ((1, Has (Shown c)) ∷ []) (Found (shown c)) []
before TellItem c =
    telling ((1, Has (Shown c)) ∷ []) (Found (shown c)) (reply_by (box_shape c) 1 ∷ [])
before TellNumber c =
    telling ((3, Has (Meant (Item c))) ∷ (1, Has (Shown c)) ∷ []) (Found (shown c))
    (reply_by (box_shape c) 1 ∷ reply_by (box_shape c) 0 ∷ [])
before _ c = nowhere

pub same_made : (row : Row) (c e : Slot) → length (before row c).made ≡ length (before row e).made
same_made (NewItem u j h i x) c e = refl
same_made _ c e = refl

-- the state of a thread: how many makes it finished, and the last of each h, counted from 1
pub record Makes : Type 0 where
  pub done : ℕ
  pub last : ℕ → ℕ

abbrev pub next : Makes → Row → Makes
next l (Claim u j h i x) = record { done = l.done + 1; last = last_after l.last h (l.done + 1) }
next l _ = l

-- the next make of thread t, and a handle of its last make of h
abbrev pub IsMine : ℕ → ℕ → Makes → ℕ → ℕ → ℕ → ℕ → Type 0
IsMine slots t l u j h i = (u ≡ t) × (j ≡ l.done) × (h < 8) × (i < slots)

abbrev pub IsLast : ℕ → ℕ → Makes → ℕ → ℕ → ℕ → ℕ → Type 0
IsLast slots t l u j h i = (u ≡ t) × (l.last h ≡ j + 1) × (h < 8) × (i < slots)

abbrev Fits : ℕ → ℕ → Makes → Row → Type 0
Fits s t l (NewBox u j h i x) = IsMine s t l u j h i
Fits s t l (PutItem u j h i x) = IsMine s t l u j h i
Fits s t l (SetId u j h i x) = IsMine s t l u j h i
Fits s t l (PutId u j h i x) = IsMine s t l u j h i
Fits s t l (Clean u j h i x) = IsMine s t l u j h i
Fits s t l (Claim u j h i x) = IsMine s t l u j h i
Fits s t l (Look u j h i) = IsLast s t l u j h i
Fits s t l (Compare u j h i) = IsLast s t l u j h i
Fits s t l (Release u j h i) = IsLast s t l u j h i
Fits s t l (Fetch i) = i < s
Fits s t l (Withdraw i) = i < s
Fits s t l _ = Unit {0}

abbrev pub kept : ℕ → Table Deed Row Answer Slot Other Makes
kept slots = record {
  size = slots;
  command_at = command_at;
  decides = decides;
  ends = ends;
  say = answer;
  act = slots_after;
  none = None;
  Shows = Shows;
  Means = Means;
  before = before;
  follow = follow;
  rest = λ t l q. rest t l.last q;
  Fits = λ t l row. Fits slots t l row;
  next = next;
  finished = λ l. 2 * l.done;
  same_made = same_made;
  shows_move = shows_move;
  means_move = means_move;
}

-- ---- how much the registers carry

-- a box in the register of h carries two blocks
box_light : (h x : ℕ) (v w : Sym) → h < 8 → light_own (two x v w) 2 1 ≡ true
    → light_own (two x v w) 2 0 ≡ true → all_light 2 weigh limit (two x v w) (box_in h x) ≡ true
box_light h x v w low box item =
    ap (λ (m : ℕ). light_own (two x v w) m 1 && all_light 2 weigh limit (two x v w) (item_in x))
    (handle_limit h low)
    ∙ (λ z. box z && (true && (item z && true)))

pub light : (s t : ℕ) (l : Makes) (row : Row) (c : Slot) → Fits s t l row
    → all_light 2 weigh limit (before row c).made (before row c).puts ≡ true
light s t l (PutItem u j h i x) c f = box_light h x Empty Empty f.2 refl refl
light s t l (SetId u j h i x) c f = box_light h x (Own 0) Empty f.2 refl refl
light s t l (PutId u j h i x) c f = box_light h x (Own 0) Empty f.2 refl refl
light s t l (Clean u j h i x) c f = box_light h x (Own 0) (Number (id u j)) f.2 refl refl
light s t l (Claim u j h i x) c f = box_light h x (Own 0) (Number (id u j)) f.2 refl refl
light s t l _ c f = refl

abbrev pub weights : (slots : ℕ) → Weights (kept slots)
weights slots = record {
  most = 2;
  weigh = weigh;
  limit = limit;
  shown = λ g out v c x s e. of_shown g out v c x s e;
  meant = λ g out v k x s e. of_meant g out v k x s e;
  rests = λ t l q. rests_light t l.last q;
  rows = light slots;
}
