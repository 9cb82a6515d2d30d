-- The text of a record: its first lines, one line more, its end, and its length.
use Rattle.std.proofs.Common.{◌≡◌, ◌↔◌, inl, inr, Bool, true, IsTrue, OnErr, ℕ, ◌+◌, ◌<◌, List, [], ◌∷◌, ◌++◌, codes, decimal, Option, Result, Ok, Err, OnOk, refl, sym, ap, ◌∙◌, subst, append_assoc, append-nil, arith, false}
use Rattle.std.specs.List.{flat_map, AllByRecursion}
use Rattle.std.specs.Result.{is_err, is_ok}
use Rattle.std.proofs.lemmas.Grind.{flat_map-append}
use Rattle.std.proofs.lemmas.List.{map-append, length-append}
use Rattle.block_store.specs.declared.Config.{Config}
use Rattle.never_heap.specs.declared.Command.{Command}
use Rattle.never_heap.specs.declared.Reply.{Reply}
use Rattle.never_heap.specs.Bounds.{IsCommandInBounds}
use Rattle.never_heap.specs.Jobs.{IsTraceInBounds}
use Rattle.control_heap.specs.Controls.{Control, HasAnswered, HasLeft, AllAnswered, CanOpen}
use Rattle.trace_text.specs.declared.Failed.{Failed}
use Rattle.trace_text.specs.Faults.{Rose}
use Rattle.trace_text.specs.JobTexts.{line_text, job_text}
use Rattle.trace_text.specs.Jobs.{IsJobInBounds}
use Rattle.trace_text.specs.Spellings.{command_line, header, trace_lines}
use Rattle.trace_text.specs.Streams.{Appends}
use Rattle.trace_text.proofs.AppendedTexts.{appends_in_turn}
use Rattle.saved_heap.specs.recorded_heap.Recording.{RecorderOf, HasRecorded, IsOpened, RecordsOne, IsWhole, job_of, text_so_far}

abbrev thread_line : List ℕ
thread_line = line_text (codes "thread" ∷ decimal 0 ∷ [])

first_lines : (c : Config) → line_text (header c) ++ thread_line ≡ text_so_far c []
first_lines c = ap (λ xs. line_text (header c) ++ xs) (sym (append-nil thread_line))

one_line : (c : Config) (ks : List Command) (k : Command)
    → text_so_far c ks ++ line_text (command_line k) ≡ text_so_far c (ks ++ k ∷ [])
one_line c ks k =
    let line = line_text (command_line k) in
    let lines : trace_lines 0 (ks ++ k ∷ []) ≡ trace_lines 0 ks ++ command_line k ∷ [] =
    ap (λ xs. (codes "thread" ∷ decimal 0 ∷ []) ∷ xs) (map-append command_line ks (k ∷ [])) in
    let more : flat_map line_text (trace_lines 0 (ks ++ k ∷ []))
    ≡ flat_map line_text (trace_lines 0 ks) ++ line =
    ap (flat_map line_text) lines
    ∙ flat_map-append line_text (trace_lines 0 ks) (command_line k ∷ [])
    ∙ ap (λ xs. flat_map line_text (trace_lines 0 ks) ++ xs) (append-nil line) in
    append_assoc (line_text (header c)) (flat_map line_text (trace_lines 0 ks)) line
    ∙ ap (λ xs. line_text (header c) ++ xs) (sym more)

last_line : (c : Config) (ks : List Command)
    → text_so_far c ks ++ codes "end\n" ≡ job_text (job_of c ks)
last_line c ks =
    let front = line_text (header c) in
    let own = trace_lines 0 ks in
    let all : flat_map line_text ((own ++ []) ++ (codes "end" ∷ []) ∷ [])
    ≡ flat_map line_text own ++ codes "end\n" =
    ap (λ xs. flat_map line_text (xs ++ (codes "end" ∷ []) ∷ [])) (append-nil own)
    ∙ flat_map-append line_text own ((codes "end" ∷ []) ∷ []) in
    append_assoc front (flat_map line_text own) (codes "end\n")
    ∙ ap (λ xs. front ++ xs) (sym all)

pub appends_first : (a b d : Option (List ℕ)) (c : Config) → Appends a b (line_text (header c))
    → Appends b d thread_line → Appends a d (text_so_far c [])
appends_first a b d c h i =
    subst (λ text. Appends a d text) (first_lines c)
    (appends_in_turn a b d (line_text (header c)) thread_line h i)

-- ---- one more command

answered_more : (h m z : Control) (ks : List Command) (ys : List Reply) (k : Command) (y : Reply)
    → AllAnswered h ks ys m → z.config ≡ m.config → HasAnswered m k y z
    → AllAnswered h (ks ++ k ∷ []) (ys ++ y ∷ []) z
answered_more h m z [] [] k y all same one =
    subst (λ x. AllAnswered x (k ∷ []) (y ∷ []) z) (sym all) (z, same, one, refl)
answered_more h m z (j ∷ ks) (x ∷ ys) k y all same one =
    (all.0, all.1, all.2, answered_more all.0 m z ks ys k y all.3 same one)
answered_more h m z [] (x ∷ ys) k y all same one = absurd all
answered_more h m z (j ∷ ks) [] k y all same one = absurd all

all_more : (P : Command → Type 0) (ks : List Command) (k : Command) → AllByRecursion P ks → P k
    → AllByRecursion P (ks ++ k ∷ [])
all_more P [] k all one = (one, tt)
all_more P (j ∷ ks) k all one = (all.0, all_more P ks k all.1 one)

-- a line is written and a command is done
pub recorded_one : {S : Type 0} (held : S → Option (List ℕ)) (old new : RecorderOf S) (k : Command)
    (y : Reply) → new.heap.config ≡ old.heap.config
    → IsCommandInBounds old.heap.config k → HasAnswered old.heap k y new.heap
    → Appends (held old.sink) (held new.sink) (line_text (command_line k))
    → old.count < 131072 → new.count ≡ old.count + 1 → RecordsOne held old k y new
recorded_one held old new k y same fits one line few count start first ks ys r = record {
  can = r.can;
  config = same ∙ r.config;
  answered = answered_more first old.heap new.heap ks ys k y r.answered same one;
  written = subst (λ text. Appends start (held new.sink) text) (one_line first.config ks k)
      (appends_in_turn start (held old.sink) (held new.sink) (text_so_far first.config ks)
      (line_text (command_line k)) r.written line);
  bounds = record {
    few = omega (arith, few, r.count, length-append ks (k ∷ []));
    commands = all_more (IsCommandInBounds first.config) ks k r.bounds.commands
        (subst (λ c. IsCommandInBounds c k) r.config fits);
  };
  count = omega (arith, count, r.count, length-append ks (k ∷ []));
}

-- ---- the opening and the end

pub opened_record : {S : Type 0} (held : S → Option (List ℕ)) (start : Option (List ℕ))
    (r : RecorderOf S) → CanOpen r.heap.config → r.count ≡ 0
    → Appends start (held r.sink) (text_so_far r.heap.config [])
    → HasRecorded held start r.heap [] [] r
opened_record held start r can none written = record {
  can = can;
  config = refl;
  answered = refl;
  written = written;
  bounds = record { few = omega arith; commands = tt };
  count = none;
}

job_fits : (c : Config) (ks : List Command) → CanOpen c → IsTraceInBounds c ks
    → IsJobInBounds (job_of c ks)
job_fits c ks can fits = record {
  config = can.bounds;
  threads = sym can.single;
  each = (fits, tt);
}

pub whole : {S : Type 0} (held : S → Option (List ℕ)) (r : RecorderOf S) (sink : S)
    → Appends (held r.sink) (held sink) (codes "end\n") → IsWhole held r sink
whole held r sink end start first ks ys h = (
  subst (λ text. Appends start (held sink) text) (last_line first.config ks)
      (appends_in_turn start (held r.sink) (held sink) (text_so_far first.config ks)
      (codes "end\n") h.written end),
  job_fits first.config ks h.can h.bounds,
)

-- ---- what the calls are told

pub on_err : {T E P : Type 0} (r : Result T E) (b : Bool) → b ≡ is_err r → b ≡ true → OnErr r P → P
on_err (Ok x) b e t h = absurd cc
on_err (Err x) b e t h = h

pub on_ok : {T E P : Type 0} (r : Result T E) (b : Bool) → b ≡ is_err r → b ≡ false → OnOk r P → P
on_ok (Ok x) b e t h = h
on_ok (Err x) b e t h = absurd cc

pub not_fits : (b : Bool) (c d : Config) (k : Command) → IsTrue b ↔ IsCommandInBounds c k
    → b ≡ false → c ≡ d → IsCommandInBounds d k → ⊥
not_fits b c d k i f e fits =
    let t : b ≡ true = i.1 (subst (λ x. IsCommandInBounds x k) (sym e) fits) in absurd cc

pub not_left : (b : Bool) (h z : Control) (k : Command) → IsTrue b ↔ HasLeft h k → b ≡ false
    → h ≡ z → HasLeft z k → ⊥
not_left b h z k i f e left =
    let t : b ≡ true = i.1 (subst (λ x. HasLeft x k) (sym e) left) in absurd cc

pub begun : {S : Type 0} (held : S → Option (List ℕ)) (faults : S → ℕ) (sink next : S)
    (h : Control) (r : Result (Unit {0}) Failed) (b : Bool) → b ≡ is_err r → CanOpen h.config
    → OnOk r (Appends (held sink) (held next) (text_so_far h.config []))
    → OnErr r (Rose (faults sink) (faults next))
    → IsOpened held faults sink (record { heap = h; sink = next; count = 0; torn = b })
begun held faults sink next h (Ok x) b e can written rose =
    inl (
      e,
      opened_record held (held sink) (record { heap = h; sink = next; count = 0; torn = b }) can
          refl written,
    )
begun held faults sink next h (Err x) b e can written rose = inr (e, rose)

pub ended : {S : Type 0} (held : S → Option (List ℕ)) (r : RecorderOf S) (inner next : S)
    (put : Result (Unit {0}) Failed) (b whole_is : Bool) → inner ≡ r.sink → b ≡ is_ok put
    → whole_is ≡ b → OnOk put (Appends (held inner) (held next) (codes "end\n"))
    → whole_is ≡ true → IsWhole held r next
ended held r inner next (Ok x) b whole_is same e f h t =
    whole held r next (subst (λ s. Appends (held s) (held next) (codes "end\n")) same h)
ended held r inner next (Err x) b whole_is same e f h t = absurd cc
