-- A line tells its item.
use Rattle.std.proofs.Common.{◌≡◌, ℕ, ◌+◌, ◌-◌, ◌^◌, ◌<◌, ◌≤◌, ◌⊎◌, inl, inr, eqb, true, false, max, List, [], ◌∷◌, ◌++◌, length, get_or, codes, decimal, Option, Some, None, sym, refl, ap, ◌∙◌, subst, arith}
use Rattle.std.specs.Str.Parse.{AllDigits}
use Rattle.std.proofs.lemmas.Bool.Decides.{nat_tests}
use Rattle.std.proofs.lemmas.Fmt.{decimal_is_IsNumeral}
use Rattle.std.proofs.lemmas.List.{append_cancel_left}
use Rattle.std.proofs.lemmas.Option.{same_Some}
use Rattle.std.proofs.lemmas.Str.Parse.{digit_from_value}
use Rattle.block_store.specs.declared.Config.{Config}
use Rattle.never_heap.specs.declared.Command.{Command}
use Rattle.never_heap.specs.declared.Entry.{Entry}
use Rattle.never_heap.specs.declared.Reply.{Reply}
use Rattle.never_heap.specs.declared.Reply.TheVariants as replies
use Rattle.never_heap.specs.Coming.{left_of}
use Rattle.never_heap.specs.Graphs.{Graph}
use Rattle.never_heap.specs.Cycles.{graph_at}
use Rattle.never_heap.specs.Histories.{HistoryItem, Started, Did, is_full, replay, starts_in, work_in}
use Rattle.never_heap.specs.Licensed.{IsLicensedReply}
use Rattle.never_heap.specs.LiveBlocks.{live_blocks}
use Rattle.never_heap.specs.RightWork.{units_owed}
use Rattle.never_heap.specs.Steps.{step, blocks_of}
use Rattle.never_heap.proofs.Lemmas.{blocks_answer, makers_have_blocks, thread_low}
use Rattle.trace_text.specs.Lines.{tokens_of, onto_first}
use Rattle.trace_text.specs.Reading.{number_at, digits_on}
use Rattle.trace_text.specs.RunTexts.{reply_text}
use Rattle.trace_text.specs.OrderTexts.{item_text, end_text}
use Rattle.trace_text.proofs.NumberLaws.{number_complete}
use Rattle.rt_check.specs.Good.{IsGood, IsLast, AreGood, FirstBad}
use Rattle.rt_check.specs.Standing.{Begins}

-- ---- the first token

pub digits_token : (ds r : List ℕ) → AllDigits 10 ds → tokens_of (ds ++ 32 ∷ r) ≡ ds ∷ tokens_of r
digits_token [] r all = refl
digits_token (d ∷ ds) r all =
    let range = digit_from_value d all.0 in
    let no_space : eqb d 32 ≡ false = grind (arith, nat_tests) in
    rw no_space (ap (onto_first d) (digits_token ds r all.1))

pub entry_begins : (s : ℕ) (e : Entry) → e.thread < 10 ^ 19
    → Begins (item_text s (Did e)) (Some e.thread)
entry_begins s e low =
    let numeral = decimal_is_IsNumeral e.thread (omega arith) in (
      decimal e.thread,
      tokens_of (reply_text e.reply e.work),
      digits_token (decimal e.thread) (reply_text e.reply e.work) numeral.0.1,
      number_complete e.thread low,
    )

pub start_begins : (s : ℕ) → Begins (item_text s Started) None
unfolding number_at digits_on
start_begins s = (codes "start", tokens_of (decimal (s + 1)), refl, refl)

pub end_begins : (past : List HistoryItem) → Begins (end_text past) None
unfolding number_at digits_on
end_begins past = (
  codes "end",
  tokens_of (codes "cycles " ++ decimal (starts_in past) ++ codes " work " ++ decimal
      (work_in past)),
  refl,
  refl,
)

first_same : (p q : List ℕ) (ps qs : List (List ℕ)) → p ∷ ps ≡ q ∷ qs → p ≡ q
first_same p q ps qs e = cc

pub begins_one : (line : List ℕ) (m n : Option ℕ) → Begins line m → Begins line n → m ≡ n
begins_one line m n a b = sym a.3 ∙ ap number_at (first_same a.0 b.0 a.1 b.1 (sym a.2 ∙ b.2)) ∙ b.3

pub begins_as : (line text : List ℕ) (n : Option ℕ) → line ≡ text → Begins text n → Begins line n
begins_as line text n e b = subst (λ (l : List ℕ). Begins l n) (sym e) b

-- ---- the thread, and the reply

no : false ≡ true → ⊥
no e = cc

-- codes of letters that differ
pub differ : (m n : ℕ) → m ≡ n → m < n → ⊥
differ m n e l = omega arith

-- the cycle that a full names after these items
abbrev pub full_cycle : List HistoryItem → ℕ
full_cycle past = max 1 (starts_in past - 1)

-- so many blocks were live at its start that a full is licensed
abbrev pub Allows : Config → List HistoryItem → Type 0
Allows c past = c.live < live_blocks c.width (graph_at c past (full_cycle past))

full_is : (c : Config) (past : List HistoryItem) (r : Reply) → is_full r ≡ true
    → IsLicensedReply c past r
    → (r ≡ replies.Full (full_cycle past)) × Allows c past
full_is c past (replies.Full z) f l = (
  ap replies.Full l.0,
  subst
      (λ (k : ℕ). c.live < live_blocks c.width (graph_at c past k)) l.0 l.1,
)
full_is c past (replies.New name) f l = absurd (no f)
full_is c past replies.Stored f l = absurd (no f)
full_is c past (replies.Val v) f l = absurd (no f)
full_is c past (replies.Len k) f l = absurd (no f)
full_is c past replies.Yes f l = absurd (no f)
full_is c past replies.No f l = absurd (no f)
full_is c past replies.Null f l = absurd (no f)
full_is c past replies.Kind f l = absurd (no f)
full_is c past replies.Range f l = absurd (no f)
full_is c past replies.Idle f l = absurd (no f)

pub same_entry : (e f : Entry) → e.thread ≡ f.thread → e.command ≡ f.command → e.reply ≡ f.reply
    → e.work ≡ f.work → e ≡ f
same_entry e f t k r w = λ i. record { thread = t i; command = k i; reply = r i; work = w i }

module _ (c : Config) (rate : ℕ) (traces : List (List Command)) (past : List HistoryItem) where
  -- the two entries that a command of a thread may have next
  abbrev pub stepped : ℕ → Command → Entry
  stepped t command = record {
    thread = t;
    command = command;
    reply = (step (replay c past) t command).1;
    work = units_owed c.width rate command;
  }

  abbrev pub filled : ℕ → Command → Entry
  filled t command = record {
    thread = t;
    command = command;
    reply = replies.Full (full_cycle past);
    work = units_owed c.width rate command;
  }

  -- what an entry is whose line begins with a thread's number
  abbrev pub IsOne : ℕ → Command → Entry → Type 0
  IsOne t command e =
      (e ≡ stepped t command) ⊎
      ((e ≡ filled t command) × (0 < blocks_of c.width command) × Allows c past)

  module _ (few : length traces ≤ 16) (line : List ℕ) where
    pub entry_tells : (e : Entry) → IsGood c rate traces past line (Did e) → Begins line (Some e.thread)
    entry_tells e good =
        let low = thread_low traces past e.thread e.command good.may_come.next.0
        good.may_come.next.1 in
        begins_as line (item_text (starts_in past) (Did e)) (Some e.thread) good.text
        (entry_begins (starts_in past) e (omega arith))

    start_tells : IsGood c rate traces past line Started → Begins line None
    start_tells good = begins_as line (item_text (starts_in past) Started) None good.text
        (start_begins (starts_in past))

    head_same : (a b : Command) (xs ys : List Command) → a ∷ xs ≡ b ∷ ys → a ≡ b
    head_same a b xs ys e = cc

    pub thread_of : (t : ℕ) → Begins line (Some t) → (e : Entry)
        → IsGood c rate traces past line (Did e) → e.thread ≡ t
    thread_of t begins e good =
        same_Some e.thread t (begins_one line (Some e.thread) (Some t)
        (entry_tells e good) begins)

    pub candidate : (t : ℕ) (command : Command) (rest : List Command) → Begins line (Some t)
        → left_of traces past t ≡ command ∷ rest
        → (e : Entry) → IsGood c rate traces past line (Did e) → IsOne t command e
    candidate t command rest begins left e good =
        let thread : e.thread ≡ t = thread_of t begins e good in
        let next = good.may_come.next in
        let told : e.command ≡ command =
        head_same e.command command next.0 rest
        (sym next.1 ∙ ap (left_of traces past) thread ∙ left) in
        let work : e.work ≡ units_owed c.width rate command =
        good.may_come.right_work ∙ ap (units_owed c.width rate) told in
        elim good.may_come.answered [
          | inl is ↦ inl (same_entry e (stepped t command) thread told
              (is ∙ (λ i. (step (replay c past) (thread i) (told i)).1)) work)
          | inr is ↦ (let full = full_is c past e.reply is.0 good.may_come.licensed in
              inr (
                same_entry e (filled t command) thread told full.0 work,
                subst (λ (k : Command). 0 < blocks_of c.width k) told
                    (makers_have_blocks c.width e.command is.1),
                full.1,
              ))
        ]

    -- a line that begins with no number is no entry's, and one that does is no start's
    pub no_entry : Begins line None → (e : Entry) → IsGood c rate traces past line (Did e) → ⊥
    no_entry begins e good = let f =
        begins_one line (Some e.thread) None (entry_tells e good) begins in cc

    pub no_start : (t : ℕ) → Begins line (Some t) → IsGood c rate traces past line Started → ⊥
    no_start t begins good = let f = begins_one line None (Some t) (start_tells good) begins in cc

    -- the texts of the two differ
    pub texts_differ : (t : ℕ) (command : Command) (s : ℕ) → 0 < blocks_of c.width command
        → item_text s (Did (stepped t command)) ≡ item_text s (Did (filled t command)) → ⊥
    texts_differ t command s some same =
        let g : Graph = replay c past in
        let new = blocks_answer c.width g t command some in
        let e = append_cancel_left (decimal t)
        (32 ∷ reply_text (step g t command).1 (units_owed c.width rate command))
        (32 ∷ reply_text (replies.Full (full_cycle past))
        (units_owed c.width rate command)) same in
        let f = ap (λ (r : Reply). get_or
        (32 ∷ reply_text r (units_owed c.width rate command)) 1 0) new in
        let h = ap (λ (l : List ℕ). get_or l 1 0) e in
        differ 102 110 (sym h ∙ f) (omega arith)

    pub one : (i j : HistoryItem) → IsGood c rate traces past line i
        → IsGood c rate traces past line j → i ≡ j
    one Started Started a b = refl
    one Started (Did e) a b = absurd (no_start e.thread (entry_tells e b) a)
    one (Did e) Started a b = absurd (no_start e.thread (entry_tells e a) b)
    one (Did e) (Did f) a b =
        let t : ℕ = e.thread in
        let next = a.may_come.next in
        let begins = entry_tells e a in
        let s : ℕ = starts_in past in
        let text : Entry → List ℕ = λ x. item_text s (Did x) in
        elim (candidate t e.command next.0 begins next.1 e a) [
          | inl p ↦ elim (candidate t e.command next.0 begins next.1 f b) [
            | inl q ↦ ap Did (p ∙ sym q)
            | inr q ↦ absurd (texts_differ t e.command s q.1
                (ap text (sym p) ∙ sym a.text ∙ b.text ∙ ap text q.0))
          ]
          | inr p ↦ elim (candidate t e.command next.0 begins next.1 f b) [
            | inl q ↦ absurd (texts_differ t e.command s p.1
                (ap text (sym q) ∙ sym b.text ∙ a.text ∙ ap text p.0))
            | inr q ↦ ap Did (p.0 ∙ sym q.0)
          ]
        ]

    -- the line of the totals is no item's
    pub no_item : IsLast traces past line → (i : HistoryItem) → IsGood c rate traces past line i → ⊥
    no_item last Started good =
        let h = ap (λ (l : List ℕ). get_or l 0 0) (sym last.text ∙ good.text) in
        differ 101 115 h (omega arith)
    no_item last (Did e) good =
        no_entry (begins_as line (end_text past) None last.text (end_begins past)) e good

-- ---- all lines

module _ (c : Config) (rate : ℕ) (traces : List (List Command)) (few : length traces ≤ 16) where
  pub apart : (past : List HistoryItem) (ls : List (List ℕ)) (n : ℕ)
      → AreGood c rate traces past ls → FirstBad c rate traces past ls n → ⊥
  apart past [] n good bad = absurd good
  apart past (l ∷ ls) n (inl last) (inl bad) = bad.1.0 last.0
  apart past (l ∷ ls) n (inl last) (inr (inl pending)) = pending.2 last.1
  apart past (l ∷ ls) n (inl last) (inr (inr more)) =
      no_item c rate traces past few l last.0 more.2.0 more.2.1
  apart past (l ∷ ls) n (inr next) (inl bad) = bad.1.1 next.0 next.1
  apart past (l ∷ ls) n (inr next) (inr (inl pending)) =
      no_item c rate traces past few l pending.1 next.0 next.1
  apart past (l ∷ ls) n (inr next) (inr (inr more)) =
      let same = one c rate traces past few l more.2.0 next.0 more.2.1 next.1 in
      apart (past ++ next.0 ∷ []) ls more.0 next.2
      (subst (λ (i : HistoryItem). FirstBad c rate traces
      (past ++ i ∷ []) ls more.0) same more.2.2)

  pub first : (past : List HistoryItem) (ls : List (List ℕ)) (m n : ℕ)
      → FirstBad c rate traces past ls m → FirstBad c rate traces past ls n → m ≡ n
  first past [] m n a b = a ∙ sym b
  first past (l ∷ ls) m n (inl a) (inl b) = a.0 ∙ sym b.0
  first past (l ∷ ls) m n (inl a) (inr (inl b)) = absurd (a.1.0 b.1)
  first past (l ∷ ls) m n (inl a) (inr (inr b)) = absurd (a.1.1 b.2.0 b.2.1)
  first past (l ∷ ls) m n (inr (inl a)) (inl b) = absurd (b.1.0 a.1)
  first past (l ∷ ls) m n (inr (inl a)) (inr (inl b)) = a.0 ∙ sym b.0
  first past (l ∷ ls) m n (inr (inl a)) (inr (inr b)) =
      absurd (no_item c rate traces past few l a.1 b.2.0 b.2.1)
  first past (l ∷ ls) m n (inr (inr a)) (inl b) = absurd (b.1.1 a.2.0 a.2.1)
  first past (l ∷ ls) m n (inr (inr a)) (inr (inl b)) =
      absurd (no_item c rate traces past few l b.1 a.2.0 a.2.1)
  first past (l ∷ ls) m n (inr (inr a)) (inr (inr b)) =
      let same = one c rate traces past few l b.2.0 a.2.0 b.2.1 a.2.1 in
      let rest = first (past ++ a.2.0 ∷ []) ls a.0 b.0 a.2.2
      (subst (λ (i : HistoryItem). FirstBad c rate traces
      (past ++ i ∷ []) ls b.0) same b.2.2) in
      a.1 ∙ ap (λ (k : ℕ). k + 1) rest ∙ sym b.1
