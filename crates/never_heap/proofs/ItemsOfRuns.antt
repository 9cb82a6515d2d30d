-- Which items may come in a run: each that comes, and no run comes of others.
use Rattle.std.proofs.Common.{◌≡◌, ◌≢◌, ℕ, zero, suc, inl, inr, List, [], ◌∷◌, ◌++◌, length, map, drop, slice_index_or, eq-eqb, ne_eqb, sym, refl, ap, ◌∙◌, subst, append_assoc, append-nil, length-append, arith, ◌-◌, ◌<◌, ◌≤◌}
use Rattle.std.proofs.lemmas.Bool.{cases_eq, cases_lt}
use Rattle.std.proofs.Math.Seq.{drop-append_seam}
use Rattle.std.proofs.lemmas.List.{map-append, get_or_past}
use Rattle.block_store.specs.declared.Config.{Config}
use Rattle.block_store.specs.declared.Width.{Width}
use Rattle.never_heap.specs.declared.Command.{Command}
use Rattle.never_heap.specs.declared.Entry.{Entry}
use Rattle.never_heap.specs.Graphs.{Graph, start_graph}
use Rattle.never_heap.specs.Histories.{HistoryItem, Started, Did, after, replay, replay_from, IsAnswered, LegalFrom, Legal, part}
use Rattle.never_heap.specs.Licensed.{IsLicensedItem, LicensedFrom}
use Rattle.never_heap.specs.Readback.{commands_in}
use Rattle.never_heap.specs.RightWork.{IsRightWork, RightWork}
use Rattle.never_heap.specs.Runs.{IsRun}
use Rattle.never_heap.specs.Coming.{left_of, IsNext, MayCome, AllMayCome}
use Rattle.never_heap.proofs.HistoryGrowth.{replay_more, part_append, legal_from}

pub no_end : (past : List HistoryItem) (i : HistoryItem) → past ++ i ∷ [] ≢ []
no_end [] i e = cc
no_end (x ∷ xs) i e = cc

-- what is left of a list after one element more
drop_one : (n : ℕ) (xs : List Command) (a : Command) (rest : List Command)
    → drop n xs ≡ a ∷ rest → drop (suc n) xs ≡ rest
drop_one zero [] a rest e = cc
drop_one zero (x ∷ xs) a rest e = cc
drop_one (suc n) [] a rest e = cc
drop_one (suc n) (x ∷ xs) a rest e = drop_one n xs a rest e

-- what was done of a trace, and what is left, is the trace
abbrev Begins : List Entry → List Command → Type 0
Begins p trace = map (λ (e : Entry). e.command) p ++ drop (length p) trace ≡ trace

abbrev pub AllBegin : List (List Command) → List HistoryItem → Type 0
AllBegin traces past = (t : ℕ) → Begins (part t past) (slice_index_or traces t [])

begins_entry : (p : List Entry) (e : Entry) (trace rest : List Command)
    → drop (length p) trace ≡ e.command ∷ rest → Begins p trace → Begins (p ++ e ∷ []) trace
begins_entry p e trace rest next was =
    let f : Entry → Command = λ x. x.command in
    let long : length (p ++ e ∷ []) ≡ suc (length p) = length-append p (e ∷ []) ∙ omega arith in
    (λ i. map-append f p (e ∷ []) i ++ drop (long i) trace)
    ∙ ap (λ (l : List Command). (map f p ++ e.command ∷ []) ++ l)
    (drop_one (length p) trace e.command rest next)
    ∙ append_assoc (map f p) (e.command ∷ []) rest
    ∙ ap (λ (l : List Command). map f p ++ l) (sym next) ∙ was

part_entry : (t : ℕ) (e : Entry) → e.thread ≡ t → part t (Did e ∷ []) ≡ e ∷ []
part_entry t e is = rw (eq-eqb e.thread t is)

part_other : (t : ℕ) (e : Entry) → e.thread ≢ t → part t (Did e ∷ []) ≡ []
part_other t e ne = rw (ne_eqb e.thread t ne)

begin_more : (traces : List (List Command)) (past : List HistoryItem) (i : HistoryItem)
    → IsNext traces past i → AllBegin traces past → AllBegin traces (past ++ i ∷ [])
begin_more traces past Started next was t =
    subst (λ (p : List Entry). Begins p (slice_index_or traces t []))
    (sym (part_append t past (Started ∷ []) ∙ append-nil (part t past))) (was t)
begin_more traces past (Did e) next was t = elim (cases_eq e.thread t) [
  | inl is ↦ subst (λ (p : List Entry). Begins p (slice_index_or traces t []))
      (sym (part_append t past (Did e ∷ [])
      ∙ ap (λ (l : List Entry). part t past ++ l) (part_entry t e is)))
      (begins_entry (part t past) e (slice_index_or traces t []) next.0
      (subst (λ (u : ℕ). left_of traces past u ≡ e.command ∷ next.0) is next.1) (was t))
  | inr ne ↦ subst (λ (p : List Entry). Begins p (slice_index_or traces t []))
      (sym (part_append t past (Did e ∷ [])
      ∙ ap (λ (l : List Entry). part t past ++ l) (part_other t e ne) ∙ append-nil (part t past)))
      (was t)
]

length_commands : (p : List Entry) → length (map (λ (e : Entry). e.command) p) ≡ length p
length_commands [] = refl
length_commands (e ∷ p) = ap suc (length_commands p)

-- what is left of a trace after what was done of it
left_is : (p : List Entry) (trace rest : List Command)
    → map (λ (e : Entry). e.command) p ++ rest ≡ trace → drop (length p) trace ≡ rest
left_is p trace rest e =
    let f : Entry → Command = λ x. x.command in
    (λ i. drop (sym (length_commands p) i) (sym e i)) ∙ drop-append_seam (map f p) rest

pub next_is : (traces : List (List Command)) (past : List HistoryItem) (i : HistoryItem)
    (h : List HistoryItem)
    → ((t : ℕ) → commands_in t (past ++ i ∷ h) ≡ slice_index_or traces t []) → IsNext traces past i
next_is traces past Started h whole = tt
next_is traces past (Did e) h whole =
    let t : ℕ = e.thread in
    let f : Entry → Command = λ x. x.command in
    let rest : List Command = map f (part t h) in
    let parts : part t (past ++ Did e ∷ h) ≡ part t past ++ e ∷ part t h =
    part_append t past (Did e ∷ h)
    ∙ ap (λ (l : List Entry). part t past ++ l)
    (part_append t (Did e ∷ []) h
    ∙ ap (λ (l : List Entry). l ++ part t h) (part_entry t e refl)) in (
      rest,
      left_is (part t past) (slice_index_or traces t []) (e.command ∷ rest)
          (sym (map-append f (part t past) (e ∷ part t h)) ∙ ap (map f) (sym parts) ∙ whole t),
    )

-- ---- each item of a run may come

legal_at : (g : Graph) (past : List HistoryItem) (i : HistoryItem) (rest : List HistoryItem)
    → LegalFrom g (past ++ i ∷ rest) → IsAnswered (replay_from g past) i
legal_at g [] i rest l = l.0
legal_at g (x ∷ past) i rest l = legal_at (after g x) past i rest l.1

licensed_at : (c : Config) (before past : List HistoryItem) (i : HistoryItem)
    (rest : List HistoryItem)
    → LicensedFrom c before (past ++ i ∷ rest) → IsLicensedItem c (before ++ past) i
licensed_at c before [] i rest l =
    subst (λ (p : List HistoryItem). IsLicensedItem c p i) (sym (append-nil before)) l.0
licensed_at c before (x ∷ past) i rest l =
    subst (λ (p : List HistoryItem). IsLicensedItem c p i) (append_assoc before (x ∷ []) past)
    (licensed_at c (before ++ x ∷ []) past i rest l.1)

work_at : (w : Width) (rate : ℕ) (past : List HistoryItem) (i : HistoryItem)
    (rest : List HistoryItem)
    → RightWork w rate (past ++ i ∷ rest) → IsRightWork w rate i
work_at w rate [] i rest l = l.0
work_at w rate (x ∷ past) i rest l = work_at w rate past i rest l.1

first_at : (c : Config) (past : List HistoryItem) (i : HistoryItem) (rest : List HistoryItem)
    → Legal c (past ++ i ∷ rest) → past ≡ [] → i ≡ Started
first_at c [] Started rest l e = refl
first_at c [] (Did d) rest l e = absurd l
first_at c (x ∷ past) i rest l e = cc

module _ (c : Config) (rate : ℕ) (traces : List (List Command)) where
  pub comes : (past : List HistoryItem) (i : HistoryItem) (rest : List HistoryItem)
      → IsRun c rate traces (past ++ i ∷ rest) → MayCome c rate traces past i
  comes past i rest run = record {
    first = first_at c past i rest run.legal;
    next = next_is traces past i rest run.traces_whole;
    answered = legal_at (start_graph c) past i rest (legal_from c (past ++ i ∷ rest) run.legal);
    licensed = licensed_at c [] past i rest run.licensed;
    right_work = work_at c.width rate past i rest run.right_work;
  }

  come_from : (past h : List HistoryItem) → IsRun c rate traces (past ++ h)
      → AllMayCome c rate traces past h
  come_from past [] run = tt
  come_from past (i ∷ h) run = (
    comes past i h run,
    come_from (past ++ i ∷ []) h
        (subst (IsRun c rate traces) (sym (append_assoc past (i ∷ []) h)) run),
  )

  pub all_come : (h : List HistoryItem) → IsRun c rate traces h → AllMayCome c rate traces [] h
  all_come h run = come_from [] h run

  pub begun : (h : List HistoryItem) → IsRun c rate traces h → h ≢ []
  begun [] run e = absurd run.legal
  begun (i ∷ h) run e = cc

  pub none_left : (h : List HistoryItem) (t : ℕ) → IsRun c rate traces h → left_of traces h t ≡ []
  none_left h t run =
      left_is (part t h) (slice_index_or traces t []) []
      (append-nil (commands_in t h) ∙ run.traces_whole t)

  -- ---- and items that may come in turn, to the end of all traces, are a run

  record Goes (past h : List HistoryItem) : Type 0 where
    legal : LegalFrom (replay c past) h
    licensed : LicensedFrom c past h
    right_work : RightWork c.width rate h
    begins : AllBegin traces (past ++ h)

  goes : (past h : List HistoryItem) → AllBegin traces past → AllMayCome c rate traces past h
      → Goes past h
  goes past [] begins all = record {
    legal = tt;
    licensed = tt;
    right_work = tt;
    begins = subst (AllBegin traces) (sym (append-nil past)) begins;
  }
  goes past (i ∷ h) begins all =
      let rest = goes (past ++ i ∷ []) h (begin_more traces past i all.0.next begins) all.1 in
      record {
        legal = (
          all.0.answered,
          subst (λ (g : Graph). LegalFrom g h) (replay_more (start_graph c) past i) rest.legal,
        );
        licensed = (all.0.licensed, rest.licensed);
        right_work = (all.0.right_work, rest.right_work);
        begins = subst (AllBegin traces) (append_assoc past (i ∷ []) h) rest.begins;
      }

  legal_whole : (h : List HistoryItem) → h ≢ [] → AllMayCome c rate traces [] h
      → LegalFrom (start_graph c) h → Legal c h
  legal_whole [] some all l = absurd (some refl)
  legal_whole (Started ∷ h) some all l = l.1
  legal_whole (Did e ∷ h) some all l = absurd (let first : Did e ≡ Started = all.0.first refl in cc)

  pub made : (h : List HistoryItem) → h ≢ [] → AllMayCome c rate traces [] h
      → ((t : ℕ) → left_of traces h t ≡ []) → IsRun c rate traces h
  made h some all none =
      let all_go = goes [] h (λ t. refl) all in
      record {
        legal = legal_whole h some all all_go.legal;
        traces_whole = λ t. sym (append-nil (commands_in t h))
            ∙ ap (λ (l : List Command). commands_in t h ++ l) (sym (none t)) ∙ all_go.begins t;
        licensed = all_go.licensed;
        right_work = all_go.right_work;
      }

-- a thread that there is not has no command left
pub drop_none : (n : ℕ) → drop {A = Command} n [] ≡ []
drop_none zero = refl
drop_none (suc n) = refl

pub no_thread : (traces : List (List Command)) (past : List HistoryItem) (t : ℕ)
    → length traces ≤ t → left_of traces past t ≡ []
no_thread traces past t few =
    ap (λ (l : List Command). drop (length (part t past)) l) (get_or_past traces t [] few)
    ∙ drop_none (length (part t past))

pub thread_low : (traces : List (List Command)) (past : List HistoryItem) (t : ℕ)
    (command : Command) (rest : List Command)
    → left_of traces past t ≡ command ∷ rest → t < length traces
thread_low traces past t command rest next = elim (cases_lt t (length traces)) [
  | inl l ↦ l
  | inr l ↦ absurd (let none = no_thread traces past t l in
      let e : [] ≡ command ∷ rest = sym none ∙ next in cc)
]
