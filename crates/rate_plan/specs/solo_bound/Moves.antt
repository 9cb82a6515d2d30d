-- The rows of a thread that alone has turns, without what they read, and what one turn may do.
use Rattle.std.specs.Prelude.{ℕ, suc, ◌+◌, ◌<◌, ◌≤◌, ◌≡◌, ◌⊎◌, Bool, true, false, ◌==◌, if◌then◌else◌}

-- where the thread is. A number u is that of the list or the root that is next, and j that of
-- the payload word
pub data Spot : Type 0 where
  Over : Spot  -- at rest, and the command has its entry
  LeaveDone : Spot  -- goes out with the reply
  Look : Spot
  Enter : Spot
  Leave : Spot  -- goes out of a pass that made a unit
  LeaveNone : Spot  -- goes out of a pass that found nothing
  CloseLook : Spot
  Close : Spot
  Check : (u : ℕ) → Spot
  SetCursor : Spot
  Flip : Spot
  ShadeRoot : (u : ℕ) → Spot
  PutRoots : Spot
  Start : Spot
  Take : (u : ℕ) → Spot
  Pop : Spot
  Scan : (j : ℕ) → Spot
  Shade : (j : ℕ) → Spot
  Blacken : Spot
  PutGrey : Spot
  ReadCursor : Spot
  Claim : (q : ℕ) → Spot  -- a range of q blocks
  Pass : (q : ℕ) (freed : Bool) → Spot  -- q of them are left, and whether one was freed
  TakeFree : (q : ℕ) → Spot
  Free : (q : ℕ) → Spot
  PutFree : Spot
  Credit : Spot
  Count : Spot
  Reserve : Spot
  Grab : (u h : ℕ) → Spot  -- h blocks are held
  Collect : (u h : ℕ) → Spot
  PutRest : Spot
  Write : (o j : ℕ) → Spot  -- word j of the block of ordinal o
  Publish : Spot
  Access : (j : ℕ) → Spot  -- in another command, at most j events before it goes out

-- Where the thread is, and how many units it owes; the phase; and whether a pass of this phase
-- will find something: a grey list that is not empty, or a block that the cursor has not passed.
pub record Lone : Type 0 where
  pub spot : Spot
  pub owed : ℕ
  pub sweep : Bool
  pub ready : Bool

-- the same, at another row
abbrev pub at : Lone → Spot → Lone
at s x = record { spot = x; owed = s.owed; sweep = s.sweep; ready = s.ready }

-- What its command is: on so many threads, and blocks of so many payload words, it allocates so
-- many blocks, or it is another command that has at most so many events inside.
pub record Terms : Type 0 where
  pub threads : ℕ
  pub payloads : ℕ
  pub allocates : Bool
  pub blocks : ℕ
  pub most : ℕ

-- the first row inside
abbrev pub begun : Terms → Lone → Spot
begun e s =
    if s.owed == 0 then (if e.allocates then Count else Access e.most)
    else (if s.sweep then ReadCursor else Take 0)

-- z is at x, and owes what s owes
abbrev pub Goes : Lone → Lone → Spot → Type 0
Goes s z x = (z.spot ≡ x) × (z.owed ≡ s.owed)

-- the same, in the phase of s
abbrev pub Stays : Lone → Lone → Spot → Type 0
Stays s z x = (z.spot ≡ x) × (z.owed ≡ s.owed) × (z.sweep ≡ s.sweep)

-- z is at x, and owes one unit less
abbrev pub Pays : Lone → Lone → Spot → Type 0
Pays s z x = (z.spot ≡ x) × (suc z.owed ≡ s.owed)

-- z comes in again, in a phase in which the pass will find something
abbrev pub Turns : Lone → Lone → Bool → Type 0
Turns s z sweep =
    (0 < s.owed) × (z ≡ record { spot = Look; owed = s.owed; sweep = sweep; ready = true })

-- from list or root u to the next, or after the last to x
abbrev pub Each : Terms → Lone → Lone → ℕ → (ℕ → Spot) → Spot → Type 0
Each e s z u more x =
    (u + 1 < e.threads) × Goes s z (more (u + 1)) ⊎ (u + 1 ≡ e.threads) × Goes s z x

-- list u had something; or it had not, and there are more; or there is nothing at all
abbrev pub Took : Terms → Lone → Lone → ℕ → Type 0
Took e s z u =
    (s.ready ≡ true) × Goes s z Pop
    ⊎ (u + 1 < e.threads) × (z ≡ at s (Take (u + 1)))
    ⊎ (s.ready ≡ false) × (s.sweep ≡ false) × Stays s z LeaveNone

-- the payload word j was dealt with
abbrev pub Dealt : Terms → Lone → Lone → ℕ → Type 0
Dealt e s z j =
    (j + 1 ≡ e.payloads) × Goes s z Blacken ⊎ (j + 1 < e.payloads) × Goes s z (Scan (j + 1))

-- a range of blocks is claimed, for which units are owed; or there are none
abbrev pub Claims : Lone → Lone → Type 0
Claims s z =
    (s.ready ≡ true) × ((q : ℕ) × (0 < q) × (q ≤ s.owed) × Goes s z (Claim q))
    ⊎ (s.ready ≡ false) × (s.sweep ≡ true) × Stays s z LeaveNone

-- a block was passed, of q that were left
abbrev pub Passed : Lone → Lone → ℕ → Bool → Type 0
Passed s z q freed =
    (q ≡ 1) × Pays s z (if freed then PutFree else Leave)
    ⊎ (p : ℕ) × (q ≡ suc p) × (0 < p) × Pays s z (Pass p freed)

-- the blocks are written, from the last one on
abbrev pub Writes : Terms → Lone → Type 0
Writes e z = (o : ℕ) × (suc o ≡ e.blocks) × (z.spot ≡ Write o 0)

-- free list u had something, or there are more lists
abbrev pub Grabbed : Terms → Lone → ℕ → ℕ → Type 0
Grabbed e z u h = (z.spot ≡ Collect u h) ⊎ (u + 1 < e.threads) × (z.spot ≡ Grab (u + 1) h)

-- one block more is held, of h; all are; or there is more in hand, or there are more lists
abbrev pub Collected : Terms → Lone → ℕ → ℕ → Type 0
Collected e z u h =
    (h + 1 ≡ e.blocks) × ((z.spot ≡ PutRest) ⊎ Writes e z)
    ⊎ (h + 1 < e.blocks) × Grabbed e z u (h + 1)

-- the word j of the block of ordinal o was written, of its payload words and three more
abbrev pub Wrote : Terms → Lone → ℕ → ℕ → Type 0
Wrote e z o j =
    (j + 1 < e.payloads + 3) × (z.spot ≡ Write o (j + 1))
    ⊎ (j + 1 ≡ e.payloads + 3)
    × ((o ≡ 0) × (z.spot ≡ Publish) ⊎ (p : ℕ) × (o ≡ suc p) × (z.spot ≡ Write p 0))

-- What one turn may do that leads from s, at this row, to z. No turn that waits is among them, nor
-- one that finds a phase ended which it has just begun.
abbrev pub Moves : Terms → Spot → Lone → Lone → Type 0
Moves e Over s z = ⊥
Moves e LeaveDone s z = z.spot ≡ Over
Moves e Look s z = z ≡ at s Enter
Moves e Enter s z = z ≡ at s (begun e s)
Moves e Leave s z = Goes s z Look
Moves e LeaveNone s z = Stays s z CloseLook
Moves e CloseLook s z = Stays s z Close
Moves e Close s z = Stays s z (if s.sweep then ShadeRoot 0 else Check 0)
Moves e (Check u) s z = Each e s z u Check SetCursor
Moves e SetCursor s z = Goes s z Flip
Moves e Flip s z = Turns s z true
Moves e (ShadeRoot u) s z = Each e s z u ShadeRoot PutRoots
Moves e PutRoots s z = Goes s z Start
Moves e Start s z = Turns s z false
Moves e (Take u) s z = (u < e.threads) × Took e s z u
Moves e Pop s z = Goes s z (Scan 0)
Moves e (Scan j) s z = (j < e.payloads) × (Goes s z (Shade j) ⊎ Dealt e s z j)
Moves e (Shade j) s z = Dealt e s z j
Moves e Blacken s z = Pays s z Leave ⊎ Pays s z PutGrey
Moves e PutGrey s z = Goes s z Leave
Moves e ReadCursor s z = Claims s z
Moves e (Claim q) s z = Goes s z (Pass q false)
Moves e (Pass q freed) s z =
    (freed ≡ false) × Goes s z (TakeFree q) ⊎ (freed ≡ true) × Goes s z (Free q)
    ⊎ Passed s z q freed
Moves e (TakeFree q) s z = Goes s z (Free q)
Moves e (Free q) s z = Passed s z q true
Moves e PutFree s z = Goes s z Credit
Moves e Credit s z = Goes s z Leave
Moves e Count s z = (z.spot ≡ Reserve) ⊎ (z.spot ≡ LeaveDone)
Moves e Reserve s z = z.spot ≡ Grab 0 0
Moves e (Grab u h) s z = (u < e.threads) × Grabbed e z u h
Moves e (Collect u h) s z = (h < e.blocks) × Collected e z u h
Moves e PutRest s z = Writes e z
Moves e (Write o j) s z = Wrote e z o j
Moves e Publish s z = z.spot ≡ LeaveDone
Moves e (Access j) s z =
    (0 < j) × (z.spot ≡ LeaveDone) ⊎ (i : ℕ) × (i < j) × (z.spot ≡ Access i)

-- before the unit of a pass that will make one
abbrev pub Fresh : Spot → Lone → Type 0
Fresh Look s = (s.ready ≡ true) × (0 < s.owed)
Fresh Enter s = (s.ready ≡ true) × (0 < s.owed)
Fresh (Take u) s = (s.ready ≡ true) × (0 < s.owed)
Fresh ReadCursor s = (s.ready ≡ true) × (0 < s.owed)
Fresh Pop s = Unit {0}
Fresh (Scan j) s = Unit {0}
Fresh (Shade j) s = Unit {0}
Fresh Blacken s = Unit {0}
Fresh (Claim q) s = Unit {0}
Fresh (Pass q freed) s = Unit {0}
Fresh (TakeFree q) s = Unit {0}
Fresh (Free q) s = Unit {0}
Fresh x s = ⊥

abbrev pub changes_phase : Spot → Bool
changes_phase Flip = true
changes_phase Start = true
changes_phase x = false
