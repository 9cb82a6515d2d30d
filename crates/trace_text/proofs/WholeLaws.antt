-- How the reading of lines goes on, and that each input is a job or has a first bad line.
use Rattle.std.proofs.Common.{◌≡◌, ◌≢◌, ℕ, zero, suc, ◌+◌, ◌-◌, ◌<◌, ◌≤◌, Bool, true, false, cond, leb, List, [], ◌∷◌, ◌++◌, map, length, take, drop, decimal, codes, Option, Some, None, is_some, Result, Ok, Err, refl, sym, ap, subst, ◌∙◌, inl, inr, append_assoc, arith}
use Rattle.std.specs.List.{AllByRecursion}
use Rattle.std.specs.Result.{IsErrAnd, MatchResult}
use Rattle.std.proofs.lemmas.List.{append-nil, length-append}
use Rattle.std.proofs.lemmas.Bool.{eq-eqb, ne_eqb, cases_eq, cases_lt}
use Rattle.std.proofs.lemmas.Option.{same_Some}
use Rattle.block_store.specs.declared.Config.{Config}
use Rattle.never_heap.specs.declared.Command.{Command}
use Rattle.never_heap.specs.Bounds.{IsCommandInBounds}
use Rattle.trace_text.specs.declared.trace_faults.TraceFault.{TraceFault}
use Rattle.trace_text.specs.declared.trace_faults.TraceFault.TheVariants.{ReadFault, TooLong, BadLine, OutOfMemory}
use Rattle.trace_text.specs.declared.trace_faults.Why.{Why}
use Rattle.trace_text.specs.declared.trace_faults.Why.TheVariants as whys
use Rattle.trace_text.specs.declared.reading.lines.Line.{Line}
use Rattle.trace_text.specs.declared.reading.lines.Line.TheVariants.{Thread, End, Told}
use Rattle.trace_text.specs.Spellings.{header, command_line, trace_lines, traces_lines, job_lines}
use Rattle.trace_text.specs.Jobs.{Job, IsJobInBounds, IsJob}
use Rattle.trace_text.specs.Reading.{Gives, tokenized}
use Rattle.trace_text.specs.Said.{line_at, header_at}
use Rattle.trace_text.specs.Refusals.{Before, nothing_before, after_lines, later_fault, next_fault, fault_at, IsFirstBadLine}
use Rattle.never_heap.specs.Jobs.{IsTraceInBounds}
use Rattle.trace_text.specs.Wholes.{IsLineFault, next_line, IsTrace, IsBadTrace, IsBegun}
use Rattle.trace_text.proofs.LineLaws.{reason, prior, place, is_told, line_agrees, line_sound}
use Rattle.trace_text.proofs.HeaderLaws.{header_agrees, header_sound}
use Rattle.trace_text.proofs.QuietLaws.{Lines, IsQuiet, LeadsThrough, in_turn, quiet_append, after_append, trace_leads, traces_lead, end_is_quiet, all_quiet, header_quiet, header_config, first_bad}

-- ---- lists of commands and traces

pub all_snoc : {A : Type 0} (P : A → Type 0) (xs : List A) (x : A) → AllByRecursion P xs → P x
    → AllByRecursion P (xs ++ x ∷ [])
all_snoc P [] x ps p = (p, tt)
all_snoc P (y ∷ ys) x ps p = (ps.0, all_snoc P ys x ps.1 p)

-- one more command
commands_snoc : (trace : List Command) (x : Command) (others : Lines)
    → map command_line trace ++ command_line x ∷ others
    ≡ map command_line (trace ++ x ∷ []) ++ others
commands_snoc [] x others = refl
commands_snoc (y ∷ trace) x others =
    ap (λ (ls : Lines). command_line y ∷ ls) (commands_snoc trace x others)

-- one more trace
traces_snoc : (t : ℕ) (done : List (List Command)) (trace : List Command) (others : Lines) (n : ℕ)
    → n ≡ t + length done
    → traces_lines t done ++ (trace_lines n trace ++ others)
    ≡ traces_lines t (done ++ trace ∷ []) ++ others
traces_snoc t [] trace others n is =
    let same : n ≡ t = omega arith in
    ap (λ (m : ℕ). trace_lines m trace ++ others) same
    ∙ ap (λ (ls : Lines). ls ++ others) (sym (append-nil (trace_lines t trace)))
traces_snoc t (first ∷ done) trace others n is =
    append_assoc (trace_lines t first) (traces_lines (t + 1) done) (trace_lines n trace ++ others)
    ∙ ap (λ (ls : Lines). trace_lines t first ++ ls)
    (traces_snoc (t + 1) done trace others n (omega arith))
    ∙ sym (append_assoc (trace_lines t first) (traces_lines (t + 1) (done ++ trace ∷ [])) others)

length_commands : (trace : List Command) → length (map command_line trace) ≡ length trace
length_commands [] = refl
length_commands (x ∷ trace) = ap suc (length_commands trace)

lines_snoc : (t : ℕ) (done : List (List Command)) (trace : List Command)
    → length (traces_lines t (done ++ trace ∷ []))
    ≡ length (traces_lines t done) + 1 + length trace
lines_snoc t [] trace = omega
    (arith, length_commands trace, ap length (append-nil (trace_lines t trace)))
lines_snoc t (first ∷ done) trace =
    omega (
      arith,
      lines_snoc (t + 1) done trace,
      length-append (trace_lines t first) (traces_lines (t + 1) (done ++ trace ∷ [])),
      length-append (trace_lines t first) (traces_lines (t + 1) done),
    )

-- ---- one line of a trace

-- the lines of a trace so far, and the others
pub record IsSoFar (c : Config) (lines : Lines) (trace : List Command) (others : Lines)
    : Type 0 where
  pub text : lines ≡ map command_line trace ++ others
  pub in_bounds : IsTraceInBounds c trace

next_is : (c : Config) (t k : ℕ) (ps : List (List ℕ)) (l : Line) → line_at (place c t k) ps ≡ Ok l
    → is_told l ≡ false → ps ≡ next_line c t
next_is c t k ps (Thread n) e told =
    let s = line_sound c t k ps (Thread n) e in
    s.text ∙ ap (λ (m : ℕ). codes "thread" ∷ decimal m ∷ []) s.fits.0
    ∙ sym (ap (λ (b : Bool). cond b (codes "end" ∷ []) (codes "thread" ∷ decimal t ∷ []))
    (ne_eqb t c.threads s.fits.1))
next_is c t k ps End e told =
    let s = line_sound c t k ps End e in
    s.text ∙ sym (ap (λ (b : Bool). cond b (codes "end" ∷ []) (codes "thread" ∷ decimal t ∷ []))
    (eq-eqb t c.threads s.fits))
next_is c t k ps (Told x) e told = absurd cc

module _ (c : Config) (t : ℕ) (lines : Lines) (trace : List Command) (left : Lines)
    (so_far : IsSoFar c lines trace left) where
  pub trace_ends : left ≡ [] → (read : ℕ)
      → IsBadTrace c t lines read (read + length trace + 1) whys.End
  trace_ends e read = record {
    trace = trace;
    others = left;
    text = so_far.text;
    in_bounds = so_far.in_bounds;
    place = refl;
    fault = rw e refl;
  }

  module _ (ps : List (List ℕ)) (others : Lines) (parts : left ≡ ps ∷ others) where
    pub trace_goes_on : (x : Command) → line_at (place c t (length trace)) ps ≡ Ok (Told x)
        → IsSoFar c lines (trace ++ x ∷ []) others
    trace_goes_on x e =
        let s = line_sound c t (length trace) ps (Told x) e in
        record {
          text = so_far.text ∙ ap (λ (ls : Lines). map command_line trace ++ ls)
              (parts ∙ ap (λ (p : List (List ℕ)). p ∷ others) s.text)
              ∙ commands_snoc trace x others;
          in_bounds = record {
            few = omega (arith, length-append trace (x ∷ []), s.fits.1);
            commands = all_snoc (IsCommandInBounds c) trace x so_far.in_bounds.commands s.fits.0;
          };
        }

    pub trace_stops : (l : Line) → line_at (place c t (length trace)) ps ≡ Ok l
        → is_told l ≡ false → IsTrace c t lines trace others
    trace_stops l e told =
        record {
          text = so_far.text ∙ ap (λ (ls : Lines). map command_line trace ++ ls)
              (parts ∙ ap (λ (p : List (List ℕ)). p ∷ others)
              (next_is c t (length trace) ps l e told));
          in_bounds = so_far.in_bounds;
        }

    pub trace_is_bad : (why : Why) → line_at (place c t (length trace)) ps ≡ Err why → (read : ℕ)
        → IsBadTrace c t lines read (read + length trace + 1) why
    trace_is_bad why e read =
        record {
          trace = trace;
          others = left;
          text = so_far.text;
          in_bounds = so_far.in_bounds;
          place = refl;
          fault = ap (next_fault c (prior t (length trace))) parts
              ∙ line_agrees c t (length trace) ps ∙ ap reason e;
        }

-- ---- the opening

pub no_header : (bytes : List ℕ) → tokenized bytes ≡ [] → IsFirstBadLine bytes 1 whys.Header
no_header bytes e = record {
  some = omega arith;
  before = λ i lt. absurd (omega arith);
  fault = ap (λ (ls : Lines). fault_at ls 0) e;
}

pub bad_header : (bytes : List ℕ) (ps : List (List ℕ)) (others : Lines) (why : Why)
    → tokenized bytes ≡ ps ∷ others → header_at ps ≡ Err why → IsFirstBadLine bytes 1 why
bad_header bytes ps others why e bad =
    record {
      some = omega arith;
      before = λ i lt. absurd (omega arith);
      fault = ap (λ (ls : Lines). fault_at ls 0) e ∙ header_agrees ps ∙ ap reason bad;
    }

module _ (bytes : List ℕ) (ps : List (List ℕ)) (others : Lines) (c : Config)
    (text : tokenized bytes ≡ ps ∷ others) (said : header_at ps ≡ Ok c) where
  begins : tokenized bytes ≡ header c ∷ others
  begins = text ∙ ap (λ (p : List (List ℕ)). p ∷ others) (header_sound ps c said).text

  pub no_thread : others ≡ [] → IsFirstBadLine bytes 2 whys.End
  no_thread e = first_bad c
      (header_sound ps c said).fits [] others tt bytes 2 whys.End nothing_before begins
      (omega arith) refl (rw e refl)

  pub bad_thread : (qs : List (List ℕ)) (more : Lines) (why : Why) → others ≡ qs ∷ more
      → line_at (place c 0 0) qs ≡ Err why → IsFirstBadLine bytes 2 why
  bad_thread qs more why e bad =
      first_bad c (header_sound ps c said).fits [] others tt bytes 2 why nothing_before begins
      (omega arith) refl (ap (next_fault c nothing_before) e ∙ line_agrees c 0 0 qs
      ∙ ap reason bad)

  pub opens : (qs : List (List ℕ)) (more : Lines) (l : Line) → others ≡ qs ∷ more
      → line_at (place c 0 0) qs ≡ Ok l → IsBegun c [] bytes 2 more
  opens qs more l e is =
      let not_told : is_told l ≡ false =
      elim ((line_sound c 0 0 qs l is).opens refl) [
        | inl h ↦ ap is_told h
        | inr h ↦
            ap is_told h
      ] in
      record {
        config = (header_sound ps c said).fits;
        threads = omega arith;
        text = begins ∙ ap (λ (ls : Lines). header c ∷ ls)
            (e ∙ ap (λ (q : List (List ℕ)). q ∷ more) (next_is c 0 0 qs l is not_told));
        traces = tt;
        place = refl;
      }

-- ---- one trace after the other

thread_next : (c : Config) (t : ℕ) → t < c.threads → next_line c t ≡ codes "thread" ∷ decimal t ∷ []
thread_next c t lt = ap (λ (b : Bool). cond b (codes "end" ∷ [])
    (codes "thread" ∷ decimal t ∷ [])) (ne_eqb t c.threads (λ e. omega arith))

end_next : (c : Config) (t : ℕ) → t ≡ c.threads → next_line c t ≡ codes "end" ∷ []
end_next c t e = ap (λ (b : Bool). cond b (codes "end" ∷ []) (codes "thread" ∷ decimal t ∷ []))
    (eq-eqb t c.threads e)

-- after the end each line is wrong
behind_end : (c : Config) (t k : ℕ) (ps : List (List ℕ))
    → later_fault c (record { threads = t; commands = k; ended = true }) ps ≡ Some whys.End
unfolding later_fault
behind_end c t k [] = refl
behind_end c t k (p ∷ ps) = refl

module _ (c : Config) (done : List (List Command)) (bytes : List ℕ) (read : ℕ) (left : Lines)
    (begun : IsBegun c done bytes read left) where
  through : LeadsThrough c 0 0 done (length done)
  through = traces_lead c 0 0 done (length done)
      (omega arith) begun.threads begun.config.threads begun.traces

  module _ (more : length done < c.threads) where
    text_on : (trace : List Command) (others : Lines) → left ≡ map command_line trace ++ others
        → tokenized bytes ≡ header c ∷
        (traces_lines 0 done ++ (trace_lines (length done) trace ++ others))
    text_on trace others e =
        begun.text ∙ ap (λ (p : List (List ℕ)). header c ∷ (traces_lines 0 done ++ p ∷ left))
        (thread_next c (length done) more)
        ∙ ap (λ (ls : Lines). header c ∷
        (traces_lines 0 done ++ (codes "thread" ∷ decimal (length done) ∷ []) ∷ ls)) e

    pub goes_on : (trace : List Command) (others : Lines)
        → IsTrace c (length done + 1) left trace others
        → IsBegun c (done ++ trace ∷ []) bytes (read + length trace + 1) others
    goes_on trace others is =
        let count : length (done ++ trace ∷ []) ≡ length done + 1 =
        omega (arith, length-append done (trace ∷ [])) in
        record {
          config = begun.config;
          threads = omega (arith, count);
          text = text_on trace (next_line c (length done + 1) ∷ others) is.text
              ∙ ap (λ (ls : Lines). header c ∷ ls)
              (traces_snoc 0 done trace (next_line c (length done + 1) ∷ others) (length done)
              (omega arith))
              ∙ ap (λ (n : ℕ). header c ∷
              (traces_lines 0 (done ++ trace ∷ []) ++ next_line c n ∷ others)) (sym count);
          traces = all_snoc (IsTraceInBounds c) done trace begun.traces is.in_bounds;
          place = omega (arith, begun.place, lines_snoc 0 done trace);
        }

    pub goes_wrong : (line : ℕ) (why : Why) → IsBadTrace c (length done + 1) left read line why
        → IsFirstBadLine bytes line why
    goes_wrong line why bad =
        let own = trace_leads c (length done) through.last bad.trace more
        (omega (arith, begun.config.threads)) bad.in_bounds in
        let all = in_turn c 0 0 (traces_lines 0 done) (trace_lines (length done) bad.trace)
        (length done) through.last (length done + 1) (length bad.trace) through.leads own in
        let ls = traces_lines 0 done ++ trace_lines (length done) bad.trace in
        first_bad c begun.config ls bad.others all.quiet bytes line why
        (prior (length done + 1) (length bad.trace))
        (text_on bad.trace bad.others bad.text
        ∙ ap (λ (more' : Lines). header c ∷ more')
        (sym (append_assoc (traces_lines 0 done)
        (trace_lines (length done) bad.trace) bad.others)))
        (omega (
          arith,
          bad.place,
          begun.place,
          length-append (traces_lines 0 done) (trace_lines (length done) bad.trace),
          length_commands bad.trace,
        ))
        all.after bad.fault

  module _ (last : length done ≡ c.threads) where
    text_end : tokenized bytes ≡ header c ∷ (traces_lines 0 done ++ (codes "end" ∷ []) ∷ left)
    text_end = begun.text ∙ ap
        (λ (p : List (List ℕ)). header c ∷ (traces_lines 0 done ++ p ∷ left))
        (end_next c (length done) last)

    pub is_whole : left ≡ [] → IsJob bytes (record { config = c; traces = done })
    is_whole e =
        record {
          in_bounds = record { config = begun.config; threads = last; each = begun.traces };
          lines = text_end ∙ ap (λ (ls : Lines). header c ∷
              (traces_lines 0 done ++ (codes "end" ∷ []) ∷ ls)) e;
        }

    end_leads : LeadsThrough c 0 0 done (length done) → (ps : List (List ℕ)) (others : Lines)
        → left ≡ ps ∷ others → IsFirstBadLine bytes (read + 1) whys.End
    end_leads t ps others e =
        let ls = traces_lines 0 done ++ (codes "end" ∷ []) ∷ [] in
        let own : IsQuiet c (prior (length done) t.last) ((codes "end" ∷ []) ∷ []) = (
          end_is_quiet c (length done) t.last last (omega (arith, begun.config.threads)),
          tt,
        ) in
        let quiet : IsQuiet c nothing_before ls =
        quiet_append c nothing_before (traces_lines 0 done)
        ((codes "end" ∷ []) ∷ []) t.leads.quiet
        (subst (λ (b : Before). IsQuiet c b ((codes "end" ∷ []) ∷ []))
        (sym t.leads.after) own) in
        let after : after_lines nothing_before ls
        ≡ record { threads = length done; commands = t.last; ended = true } =
        after_append nothing_before (traces_lines 0 done) ((codes "end" ∷ []) ∷ [])
        ∙ ap (λ (b : Before). after_lines b ((codes "end" ∷ []) ∷ [])) t.leads.after in
        first_bad c begun.config ls left quiet bytes (read + 1) whys.End
        (record { threads = length done; commands = t.last; ended = true })
        (text_end ∙ ap (λ (more' : Lines). header c ∷ more')
        (sym (append_assoc (traces_lines 0 done) ((codes "end" ∷ []) ∷ []) left)))
        (omega (arith, begun.place, length-append (traces_lines 0 done) ((codes "end" ∷ []) ∷ [])))
        after (ap (next_fault c (record {
          threads = length done;
          commands = t.last;
          ended = true;
        })) e ∙ behind_end c (length done) t.last ps)

    pub is_too_long : (ps : List (List ℕ)) (others : Lines) → left ≡ ps ∷ others
        → IsFirstBadLine bytes (read + 1) whys.End
    is_too_long = end_leads through

-- ---- jobs and first bad lines

apart_order : (m n : ℕ) → (m < n → ⊥) → (n < m → ⊥) → m ≢ n → ⊥
apart_order m n low high ne = elim (cases_lt m n) [ inl lt ↦ low lt | inr le ↦ high (omega arith) ]

job_quiet : (c : Config) (traces : List (List Command)) (i : ℕ)
    → IsJobInBounds (record { config = c; traces = traces })
    → fault_at (job_lines c traces) i ≡ None
job_quiet c traces zero b = header_quiet c b.config
job_quiet c traces (suc i) b =
    let t = traces_lead c 0 0 traces (length traces) (omega arith)
    (omega (arith, b.threads)) b.config.threads b.each in
    let ls = traces_lines 0 traces ++ (codes "end" ∷ []) ∷ [] in
    let own : IsQuiet c (prior (length traces) t.last) ((codes "end" ∷ []) ∷ []) = (
      end_is_quiet c (length traces) t.last b.threads
          (omega (arith, b.threads, b.config.threads)),
      tt,
    ) in
    let quiet : IsQuiet c nothing_before ls =
    quiet_append c nothing_before (traces_lines 0 traces)
    ((codes "end" ∷ []) ∷ []) t.leads.quiet
    (subst (λ (p : Before). IsQuiet c p ((codes "end" ∷ []) ∷ [])) (sym t.leads.after) own) in
    let after : after_lines nothing_before ls
    ≡ record { threads = length traces; commands = t.last; ended = true } =
    after_append nothing_before (traces_lines 0 traces) ((codes "end" ∷ []) ∷ [])
    ∙ ap (λ (p : Before). after_lines p ((codes "end" ∷ []) ∷ [])) t.leads.after in
    ap (λ (d : Config). next_fault d (after_lines nothing_before (take i ls)) (drop i ls))
    (header_config c b.config)
    ∙ all_quiet c nothing_before ls i quiet (ap (λ (p : Before). p.ended) after)

-- no bytes are both a job and have a bad line
pub apart : (bytes : List ℕ) (job : Job) (line : ℕ) (why : Why) → IsJob bytes job
    → IsFirstBadLine bytes line why → ⊥
apart bytes job line why is bad =
    let none : fault_at (tokenized bytes) (line - 1) ≡ None =
    ap (λ (ls : Lines). fault_at ls (line - 1)) is.lines
    ∙ job_quiet job.config job.traces (line - 1) is.in_bounds in
    let fault = bad.fault in
    absurd cc

not_below : (bytes : List ℕ) (line other : ℕ) (why reason : Why) → IsFirstBadLine bytes line why
    → IsFirstBadLine bytes other reason → line < other → ⊥
not_below bytes line other why reason p q lt =
    let none : fault_at (tokenized bytes) (line - 1) ≡ None =
    q.before (line - 1) (omega (arith, p.some)) in
    let fault = p.fault in
    absurd cc

-- there is at most one first bad line, with one reason
pub one_first : (bytes : List ℕ) (line other : ℕ) (why reason : Why)
    → IsFirstBadLine bytes line why → IsFirstBadLine bytes other reason
    → (line ≡ other) × (why ≡ reason)
one_first bytes line other why reason p q =
    let low : line < other → ⊥ = not_below bytes line other why reason p q in
    let high : other < line → ⊥ = not_below bytes other line reason why q p in
    let same : line ≡ other =
    elim (cases_eq line other) [
      | inl e ↦ e
      | inr ne ↦
          absurd (apart_order line other low high ne)
    ] in (
      same,
      same_Some why reason
          (sym p.fault ∙ ap (λ (n : ℕ). fault_at (tokenized bytes) (n - 1)) same ∙ q.fault),
    )

-- ---- as a loop reads

-- what was read with the place's count of commands
pub read_at : (c : Config) (t n k : ℕ) (ps : List (List ℕ)) (said : Result Line Why) → n ≡ k
    → said ≡ line_at (record { config = c; threads = t; full = leb 131072 n }) ps
    → line_at (place c t k) ps ≡ said
read_at c t n k ps said e is = ap (λ (m : ℕ). line_at (place c t m) ps) (sym e) ∙ sym is

pub not_told : (l : Line) → ((x : Command) → l ≡ Told x → ⊥) → is_told l ≡ false
not_told (Thread t) h = refl
not_told End h = refl
not_told (Told x) h = absurd (h x refl)

pub gives_none : {X Y : Type 0} (view : X → Y) (o : Option X) (read : Option Y)
    → Gives view o read → is_some o ≡ false → read ≡ None
gives_none view None read g e = g
gives_none view (Some x) read g e = absurd cc

pub gives_some : {X Y : Type 0} (view : X → Y) (o : Option X) (read : Option Y)
    → Gives view o read → is_some o ≡ true → (y : Y) × (read ≡ Some y)
gives_some view None read g e = absurd cc
gives_some view (Some x) read g e = (view x, g)

-- with the number of threads as a loop has it
module _ (c : Config) (done : List (List Command)) (n : ℕ) (bytes : List ℕ) (read : ℕ)
    (left : Lines) (begun : IsBegun c done bytes read left) (count : n ≡ length done) where
  pub next_begun : n < c.threads → (trace : List Command) (others : Lines) (now : ℕ)
      → IsTrace c (n + 1) left trace others → now ≡ read + length trace + 1
      → IsBegun c (done ++ trace ∷ []) bytes now others
  next_begun more trace others now is e =
      let on = goes_on c done bytes read left begun (omega (arith, count, more)) trace others
      (subst (λ (m : ℕ). IsTrace c (m + 1) left trace others) count is) in
      subst (λ (m : ℕ). IsBegun c (done ++ trace ∷ []) bytes m others) (sym e) on

  next_bad : n < c.threads → (line : ℕ) (why : Why) → IsBadTrace c (n + 1) left read line why
      → IsFirstBadLine bytes line why
  next_bad more line why bad =
      goes_wrong c done bytes read left begun (omega (arith, count, more)) line why
      (subst (λ (m : ℕ). IsBadTrace c (m + 1) left read line why) count bad)

  pub next_fault_is : n < c.threads → (fault : TraceFault)
      → IsLineFault (IsBadTrace c (n + 1) left read) fault
      → IsLineFault (IsFirstBadLine bytes) fault
  next_fault_is more ReadFault is = absurd is
  next_fault_is more TooLong is = absurd is
  next_fault_is more (BadLine line why) is = next_bad more line why is
  next_fault_is more OutOfMemory is = tt

  pub ends_whole : c.threads ≤ n → left ≡ [] → IsJob bytes (record { config = c; traces = done })
  ends_whole le e = is_whole c done bytes read left begun (omega (arith, count, begun.threads)) e

  pub ends_pending : c.threads ≤ n → (p : List (List ℕ) × Lines) → left ≡ p.0 ∷ p.1
      → IsFirstBadLine bytes (read + 1) whys.End
  ends_pending le p e = is_too_long c done bytes read left begun
      (omega (arith, count, begun.threads)) p.0 p.1 e

-- an error that is passed on
pub passed_on : {A : Type 0} (r : Result A TraceFault) (P : A → Type 0) (Q : TraceFault → Type 0)
    (f : TraceFault) → IsErrAnd r (λ e. e ≡ f) → Q f → MatchResult r P Q
passed_on (Ok x) P Q f h q = absurd h
passed_on (Err e) P Q f h q = subst Q (sym h) q
