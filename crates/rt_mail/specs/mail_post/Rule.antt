-- The rule of the queue: for each sender, what was taken and what is in the queue, in this
-- order, is what the sender sent.
use Rattle.std.specs.Prelude.{ℕ, ◌+◌, ◌≤◌, ◌≡◌, List, [], ◌∷◌, ◌++◌}
use Rattle.std.specs.List.{AllByRecursion}
use mathlib.Core.Option as maybe
use mathlib.Core.Option.{some, none}
use lib.ListN.{get_elem?}
use Rattle.rt_mail.specs.declared.mail_post.views.Letter.{Letter}
use Rattle.rt_mail.specs.declared.mail_post.views.Whole.{Whole}
use Rattle.rt_mail.specs.declared.mail_post.views.View.{View}
use Rattle.rt_mail.specs.declared.mail_post.views.View.TheVariants.{Spent, Sending, Taking}
use Rattle.rt_mail.specs.mail_post.Letters.{numbers_of}

-- this sender sends no more, and sent this
abbrev pub IsWhole : (ℕ → maybe.Option ℕ) → (ℕ → List ℕ) → Whole → Type 0
IsWhole seat sent w = (seat w.thread ≡ none) × (w.sent ≡ sent w.thread)

-- What a pass knows is so. Each thread that still sends has one pass, its seat, which knows what it
-- sent. The one taker knows what was taken; no thread from its count on has a seat or sent
-- anything.
abbrev pub Fits : ℕ → (ℕ → maybe.Option ℕ) → (ℕ → List ℕ) → List Letter → ℕ → View → Type 0
Fits reader seat sent taken pass Spent = Unit {0}
Fits reader seat sent taken pass (Sending t list) = (seat t ≡ some pass) × (list ≡ sent t)
Fits reader seat sent taken pass (Taking n letters gathered) =
    (pass ≡ reader) × (letters ≡ taken) × ((t : ℕ) → n ≤ t → (seat t ≡ none) × (sent t ≡ []))
    × AllByRecursion (IsWhole seat sent) gathered

abbrev pub Delivers : List Letter → List View → Type 0
Delivers items views =
    (reader : ℕ) × (seat : ℕ → maybe.Option ℕ) × (sent : ℕ → List ℕ) × (taken : List Letter)
    × ((t : ℕ) → numbers_of t (taken ++ items) ≡ sent t)
    × ((pass : ℕ) (v : View) → get_elem? views pass ≡ some v → Fits reader seat sent taken pass v)

-- ---- the moves

-- one sender more
abbrev pub with_sender : View → View
with_sender (Taking n letters gathered) = Taking (n + 1) letters gathered
with_sender v = v

-- the next sender
abbrev pub next_sender : View → View
next_sender (Taking n letters gathered) = Sending n []
next_sender v = Spent

-- a letter was sent
abbrev pub sending_more : View → Letter → View
sending_more (Sending t list) x = Sending t (list ++ x.number ∷ [])
sending_more v x = v

-- how many senders there are
abbrev pub senders_in : View → ℕ
senders_in (Taking n letters gathered) = n
senders_in v = 0

-- what a sender sent
abbrev pub sent_in : View → List ℕ
sent_in (Sending t list) = list
sent_in v = []

-- the letters that were taken
abbrev pub letters_in : View → List Letter
letters_in (Taking n letters gathered) = letters
letters_in v = []

abbrev pub gathered_in : View → List Whole
gathered_in (Taking n letters gathered) = gathered
gathered_in v = []

-- a letter was taken
abbrev pub taking_more : View → Letter → View
taking_more (Taking n letters gathered) x = Taking n (letters ++ x ∷ []) gathered
taking_more v x = v

abbrev pub whole : ℕ → List ℕ → Whole
whole t list = record { thread = t; sent = list }

-- a sender was gathered
abbrev pub gathering : View → View → View
gathering (Taking n letters gathered) (Sending t list) = Taking n letters
    (gathered ++ whole t list ∷ [])
gathering v w = v

-- what a sender that was gathered sent is what was taken of it, and then what is in the queue
abbrev pub IsSplit : List Letter → List Letter → Whole → Type 0
IsSplit letters items w = w.sent ≡ numbers_of w.thread letters ++ numbers_of w.thread items

-- this is a taker's view
abbrev pub IsTaking : View → Type 0
IsTaking v = v ≡ Taking (senders_in v) (letters_in v) (gathered_in v)

-- what the taker learns of the senders that were gathered
abbrev pub Tells : View → List Letter → Type 0
Tells v items = AllByRecursion (IsSplit (letters_in v) items) (gathered_in v)
