-- What contracts see of a post, of a sender, of the taker, and of what was taken.
use Rattle.std.specs.Prelude.{ℕ, ◌≡◌, ◌==◌, ◌<◌, nat_lt, if◌then◌else◌, true, false, Bool, ◌||◌, List, [], ◌∷◌, ◌++◌, length, map, slice_index_or, count_by, Option, Some, None}
use Rattle.std.specs.List.{range_with_len}
use Rattle.atomic_table.specs.Seated.{TableId}
use Rattle.rt_mail.specs.declared.mail_post.views.Whole.{Whole}
use Rattle.rt_mail.specs.declared.mail_post.views.View.{View}
use Rattle.rt_mail.specs.declared.mail_post.views.View.TheVariants.{Taking}
use Rattle.rt_mail.specs.mail_post.Letters.{numbers_of, sent_by}
use Rattle.rt_mail.specs.mail_post.Rule.{letters_in, gathered_in}

-- a post: which it is, how many senders it has, and how many letters its queue has room for
pub record PostState : Type 0 where
  pub id : TableId
  pub senders : ℕ
  pub room : ℕ

-- a sender: its post, its thread, and the numbers that it sent
pub record SenderState : Type 0 where
  pub post : TableId
  pub thread : ℕ
  pub sent : List ℕ

-- the taker: its post, the numbers that were taken of each sender, and, once the senders were
-- gathered, what each of them sent in all
pub record TakerState : Type 0 where
  pub post : TableId
  pub taken : List (List ℕ)
  pub sent : Option (List (List ℕ))

-- what was taken of each sender, and what each sender sent in all
pub record TakenState : Type 0 where
  pub taken : List (List ℕ)
  pub sent : List (List ℕ)

-- a sender that sent nothing yet
abbrev pub fresh_sender : TableId → ℕ → SenderState
fresh_sender post t = record { post = post; thread = t; sent = [] }

-- the senders of a post when it is new
abbrev pub fresh_senders : TableId → ℕ → List SenderState
fresh_senders post n = map (fresh_sender post) (range_with_len 0 n)

-- the taker of a post when it is new
abbrev pub fresh_taker : TableId → ℕ → TakerState
fresh_taker post n = record { post = post; taken = map (λ t. []) (range_with_len 0 n); sent = None }

-- a sender, as it is gathered
abbrev pub whole_of : SenderState → Whole
whole_of s = record { thread = s.thread; sent = s.sent }

-- what each of n senders sent
abbrev pub all_sent : ℕ → List Whole → List (List ℕ)
all_sent n gathered = map (λ t. sent_by t gathered) (range_with_len 0 n)

-- what is known of the senders: nothing before they were gathered
abbrev pub known_sent : ℕ → List Whole → Option (List (List ℕ))
known_sent n [] = None
known_sent n (w ∷ ws) = Some (all_sent n (w ∷ ws))

-- all senders of a post, each once, in any order
abbrev pub AreAll : ℕ → List SenderState → Type 0
AreAll n senders = (t : ℕ) → count_by (λ (s : SenderState). s.thread == t) senders
    ≡ (if nat_lt t n then 1 else 0)

-- they are of this post
abbrev pub OfPost : TableId → List SenderState → Type 0
OfPost post [] = Unit {0}
OfPost post (s ∷ ss) = (s.post ≡ post) × OfPost post ss

-- xs begins ys
abbrev pub Begins : List ℕ → List ℕ → Type 0
Begins xs ys = (rest : List ℕ) × (ys ≡ xs ++ rest)

-- ---- what the fields of an end say

-- whether a thread is among those that were gathered
abbrev pub is_among : ℕ → List Whole → Bool
is_among t [] = false
is_among t (w ∷ ws) = (w.thread == t) || is_among t ws

-- all n were gathered, or none
abbrev pub AllOrNone : ℕ → List Whole → Type 0
AllOrNone n [] = Unit {0}
AllOrNone n (w ∷ ws) = (t : ℕ) → t < n → is_among t (w ∷ ws) ≡ true

-- rows have what was taken, by sender, and the view knows it
pub record IsTaker (rows : List (List ℕ)) (v : View) : Type 0 where
  pub some : 0 < length rows
  pub is : v ≡ Taking (length rows) (letters_in v) (gathered_in v)
  pub rows_are : (t : ℕ) → t < length rows → slice_index_or rows t [] ≡ numbers_of t (letters_in v)
  pub gathered : AllOrNone (length rows) (gathered_in v)

-- of each sender what was taken begins what it sent
pub record IsTakenState (taken sent : List (List ℕ)) : Type 0 where
  pub size : length sent ≡ length taken
  pub begins : (t : ℕ) → t < length taken → Begins (slice_index_or taken t [])
      (slice_index_or sent t [])
