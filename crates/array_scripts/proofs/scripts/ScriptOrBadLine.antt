-- A script has no bad line, and lines without a bad one are those of a script.
use Rattle.std.proofs.Common.{◌≡◌, ℕ, ◌+◌, ◌<◌, ◌⊎◌, inl, inr, Option, Some, None, List, [], ◌∷◌, ◌++◌, drop, get_or, map, append-nil, refl, sym, ap, ◌∙◌, arith, subst}
use Rattle.array_scripts.specs.scripts.Scripts.{Said, Thread, Told, End, Start, Among, Done, Language, thread_lines, script_lines, behind, begins, or_bad, bad_line, AreFit, AllFit, IsScript, Reads, begin_thread, front_op, told_next, told}

pub some_is : {A : Type 0} {x y : A} → Some x ≡ Some y → x ≡ y
some_is {A} {x} {y} f = ap (λ (o : Option A). or o) f
  where
    or : Option A → A
    or None = x
    or (Some w) = w

module _ {L H S Op : Type 0} (lang : Language L H S Op)
    (IsHeader : H → Type 0) (Fits : H → S → Op → Type 0) where
  module _ (reads : Reads lang IsHeader Fits) where
    -- ---- a script has no bad line
    ops_stand : (h : H) → IsHeader h → (t n : ℕ) (s : S) (ops : List Op) (rest : List L) → 0 < t
        → AreFit lang IsHeader Fits h s ops
        → ((m : ℕ) (z : S) → bad_line lang (Among h t z) m rest ≡ None)
        → bad_line lang (Among h t s) n (map lang.op_line ops ++ rest) ≡ None
    ops_stand h is t n s [] rest some fit after = after n s
    ops_stand h is t n s (op ∷ ops) rest some fit after =
        ap (λ o. or_bad (behind lang h t s o) n
        (λ q. bad_line lang q (n + 1) (map lang.op_line ops ++ rest)))
        (reads.line_again h t s (Told op) is (some, fit.0))
        ∙ ops_stand h is t (n + 1) (lang.more s op) ops rest some fit.1 after

    threads_stand : (h : H) → IsHeader h → (t n : ℕ) (s : S) (scripts : List (List Op)) → AllFit lang IsHeader Fits h t scripts
        → bad_line lang (Among h t s) n (thread_lines lang t scripts) ≡ None
    threads_stand h is t n s [] fit =
        ap (λ o. or_bad (behind lang h t s o) n (λ q. bad_line lang q (n + 1) []))
        (reads.line_again h t s End is fit)
    threads_stand h is t n s (ops ∷ scripts) fit =
        ap (λ o. or_bad (behind lang h t s o) n
        (λ q. bad_line lang q (n + 1) (map lang.op_line ops ++ thread_lines lang (t + 1) scripts)))
        (reads.line_again h t s (Thread t) is (refl, fit.0))
        ∙ ops_stand h is (t + 1) (n + 1) (lang.begun h t) ops (thread_lines lang (t + 1) scripts)
        (omega arith) fit.1 (λ m z. threads_stand h is (t + 1) m z scripts fit.2)

    written_stand : (h : H) (scripts : List (List Op)) → IsHeader h
        → AllFit lang IsHeader Fits h 0 scripts
        → bad_line lang Start 1 (script_lines lang h scripts) ≡ None
    written_stand h scripts is fit =
        ap (λ o. or_bad (begins lang o) 1 (λ q. bad_line lang q (1 + 1) (thread_lines lang 0 scripts)))
        (reads.header_again h is)
        ∙ threads_stand h is 0 (1 + 1) (lang.begun h 0) scripts fit

    pub scripts_stand : (ls : List L) (h : H) (scripts : List (List Op))
        → IsScript lang IsHeader Fits ls h scripts → bad_line lang Start 1 ls ≡ None
    scripts_stand ls h scripts script =
        ap (bad_line lang Start 1) script.spelled
        ∙ written_stand h scripts script.header script.fit

    -- ---- lines without a bad one are a script

    -- after t thread lines: the operations of the present thread, and the other threads
    record Goes (h : H) (t : ℕ) (s : S) (ls : List L) : Type 0 where
      ops : List Op
      scripts : List (List Op)
      lines : ls ≡ map lang.op_line ops ++ thread_lines lang t scripts
      fit : AreFit lang IsHeader Fits h s ops
      fits : AllFit lang IsHeader Fits h t scripts
      some : (ops ≡ []) ⊎ (0 < t)

    none_left : (ls : List L) (n : ℕ) → bad_line lang Done n ls ≡ None → ls ≡ []
    none_left [] n e = refl
    none_left (l ∷ ls) n e = absurd cc

    goes_by : (h : H) (t n : ℕ) (s : S) (l : L) (ls : List L) (o : Option (Said Op))
        → lang.line_at h t s l ≡ o
        → ((u : ℕ) (z : S) → bad_line lang (Among h u z) (n + 1) ls ≡ None → Goes h u z ls)
        → or_bad (behind lang h t s o) n (λ q. bad_line lang q (n + 1) ls) ≡ None
        → Goes h t s (l ∷ ls)
    goes_by h t n s l ls None is rest e = absurd cc
    goes_by h t n s l ls (Some (Thread u)) is rest e =
        let line = reads.line_sound h t s l (Thread u) is in
        let g = rest (t + 1) (lang.begun h t) e in
        record {
          ops = [];
          scripts = g.ops ∷ g.scripts;
          lines = (λ k. line.0 k ∷ g.lines k)
              ∙ ap (λ (x : ℕ). lang.thread_line x
              ∷ (map lang.op_line g.ops ++ thread_lines lang (t + 1) g.scripts)) line.1.0;
          fit = tt;
          fits = (line.1.1, g.fit, g.fits);
          some = inl refl;
        }
    goes_by h t n s l ls (Some (Told op)) is rest e =
        let line = reads.line_sound h t s l (Told op) is in
        let g = rest t (lang.more s op) e in
        record {
          ops = op ∷ g.ops;
          scripts = g.scripts;
          lines = (λ k. line.0 k ∷ g.lines k);
          fit = (line.1.1, g.fit);
          fits = g.fits;
          some = inr line.1.0;
        }
    goes_by h t n s l ls (Some End) is rest e =
        let line = reads.line_sound h t s l End is in
        record {
          ops = [];
          scripts = [];
          lines = (λ k. line.0 k ∷ none_left ls (n + 1) e k);
          fit = tt;
          fits = line.1;
          some = inl refl;
        }

    goes_on : (h : H) (t n : ℕ) (s : S) (ls : List L) → bad_line lang (Among h t s) n ls ≡ None
        → Goes h t s ls
    goes_on h t n s [] e = absurd cc
    goes_on h t n s (l ∷ ls) e =
        goes_by h t n s l ls (lang.line_at h t s l) refl
        (λ u z f. goes_on h u (n + 1) z ls f) e

    none_of : (ops : List Op) → (ops ≡ []) ⊎ (0 < 0) → ops ≡ []
    none_of ops (inl e) = e
    none_of ops (inr low) = absurd (omega arith)

    header_by : (l : L) (ls : List L) (o : Option H) → lang.header_at l ≡ o
        → or_bad (begins lang o) 1 (λ q. bad_line lang q (1 + 1) ls) ≡ None
        → (h : H) × (scripts : List (List Op)) × IsScript lang IsHeader Fits (l ∷ ls) h scripts
    header_by l ls None is e = absurd cc
    header_by l ls (Some h) is e =
        let head = reads.header_sound l h is in
        let g = goes_on h 0 (1 + 1) (lang.begun h 0) ls e in (
          h,
          g.scripts,
          record {
            header = head.1;
            fit = g.fits;
            spelled = (λ k. head.0 k ∷ g.lines k)
                ∙ ap (λ (ops : List Op). lang.header_line h
                ∷ (map lang.op_line ops ++ thread_lines lang 0 g.scripts)) (none_of g.ops g.some);
          },
        )

    pub lines_are_scripts : (ls : List L) → bad_line lang Start 1 ls ≡ None
        → (h : H) × (scripts : List (List Op)) × IsScript lang IsHeader Fits ls h scripts
    lines_are_scripts [] e = absurd cc
    lines_are_scripts (l ∷ ls) e = header_by l ls (lang.header_at l) refl e

    -- ---- what lines say is a script of these lines

    pub record Tells (h : H) (t : ℕ) (s : S) (ls : List L) (r : List Op × List (List Op))
        : Type 0 where
      pub lines : ls ≡ map lang.op_line r.0 ++ thread_lines lang t r.1
      pub fit : AreFit lang IsHeader Fits h s r.0
      pub fits : AllFit lang IsHeader Fits h t r.1
      pub some : (r.0 ≡ []) ⊎ (0 < t)

    tells_by : (h : H) (t : ℕ) (s : S) (l : L) (ls : List L) (o : Option (Said Op))
        (r : List Op × List (List Op))
        → lang.line_at h t s l ≡ o
        → ((u : ℕ) (z : S) (q : List Op × List (List Op)) → told lang h u z ls ≡ Some q → Tells h u z ls q)
        → told_next lang h t s o ls (λ u z. told lang h u z ls) ≡ Some r
        → Tells h t s (l ∷ ls) r
    tells_by h t s l ls None r is rest e = absurd cc
    tells_by h t s l ls (Some (Thread u)) r is rest e =
        let line = reads.line_sound h t s l (Thread u) is in
        begun_by (told lang h (t + 1) (lang.begun h t) ls) r refl e (λ q has same.
        let g = rest (t + 1) (lang.begun h t) q has in
        subst (Tells h t s (l ∷ ls)) same (record {
          lines = (λ k. line.0 k ∷ g.lines k)
              ∙ ap (λ (x : ℕ). lang.thread_line x
              ∷ (map lang.op_line q.0 ++ thread_lines lang (t + 1) q.1)) line.1.0;
          fit = tt;
          fits = (line.1.1, g.fit, g.fits);
          some = inl refl;
        }))
      where
        begun_by : {P : Type 0} (o : Option (List Op × List (List Op))) (r : List Op × List (List Op))
            → told lang h (t + 1) (lang.begun h t) ls ≡ o → begin_thread o ≡ Some r
            → ((q : List Op × List (List Op)) → told lang h (t + 1) (lang.begun h t) ls ≡ Some q
            → ([], q.0 ∷ q.1) ≡ r → P) → P
        begun_by None r has f k = absurd cc
        begun_by (Some q) r has f k = k q has (some_is f)
    tells_by h t s l ls (Some (Told op)) r is rest e =
        let line = reads.line_sound h t s l (Told op) is in
        front_by (told lang h t (lang.more s op) ls) r refl e (λ q has same.
        let g = rest t (lang.more s op) q has in
        subst (Tells h t s (l ∷ ls)) same (record {
          lines = (λ k. line.0 k ∷ g.lines k);
          fit = (line.1.1, g.fit);
          fits = g.fits;
          some = inr line.1.0;
        }))
      where
        front_by : {P : Type 0} (o : Option (List Op × List (List Op))) (r : List Op × List (List Op))
            → told lang h t (lang.more s op) ls ≡ o → front_op op o ≡ Some r
            → ((q : List Op × List (List Op)) → told lang h t (lang.more s op) ls ≡ Some q
            → (op ∷ q.0, q.1) ≡ r → P) → P
        front_by None r has f k = absurd cc
        front_by (Some q) r has f k = k q has (some_is f)
    tells_by h t s l [] (Some End) r is rest e =
        let line = reads.line_sound h t s l End is in
        subst (Tells h t s (l ∷ [])) (some_is e) (record {
          lines = ap (λ (x : L). x ∷ []) line.0;
          fit = tt;
          fits = line.1;
          some = inl refl;
        })
    tells_by h t s l (m ∷ ls) (Some End) r is rest e = absurd cc

    tells_on : (h : H) (t : ℕ) (s : S) (ls : List L) (r : List Op × List (List Op))
        → told lang h t s ls ≡ Some r → Tells h t s ls r
    tells_on h t s [] r e = absurd cc
    tells_on h t s (l ∷ ls) r e =
        tells_by h t s l ls (lang.line_at h t s l) r refl (λ u z q f. tells_on h u z ls q f) e

    -- a header's line and what the others say are a script
    pub told_is_script : (h : H) (l : L) (ls : List L) (ops : List Op) (scripts : List (List Op))
        → lang.header_at l ≡ Some h → told lang h 0 (lang.begun h 0) ls ≡ Some (ops, scripts)
        → IsScript lang IsHeader Fits (l ∷ ls) h scripts
    told_is_script h l ls ops scripts is e =
        let head = reads.header_sound l h is in
        let g = tells_on h 0 (lang.begun h 0) ls (ops, scripts) e in
        record {
          header = head.1;
          fit = g.fits;
          spelled = (λ k. head.0 k ∷ g.lines k)
              ∙ ap (λ (x : List Op). lang.header_line h
              ∷ (map lang.op_line x ++ thread_lines lang 0 scripts)) (none_of ops g.some);
        }

    -- ---- lines are one script at most

    -- operations in front of what is told
    abbrev in_front :
        List Op → Option (List Op × List (List Op)) → Option (List Op × List (List Op))
    in_front [] o = o
    in_front (op ∷ ops) o = front_op op (in_front ops o)

    front_all : (ops others : List Op) (scripts : List (List Op))
        → in_front ops (Some (others, scripts)) ≡ Some (ops ++ others, scripts)
    front_all [] others scripts = refl
    front_all (op ∷ ops) others scripts = ap (front_op op) (front_all ops others scripts)

    ops_tell : (h : H) → IsHeader h → (t : ℕ) (s : S) (ops : List Op) (rest : List L) → 0 < t
        → AreFit lang IsHeader Fits h s ops → (o : Option (List Op × List (List Op)))
        → ((z : S) → told lang h t z rest ≡ o)
        → told lang h t s (map lang.op_line ops ++ rest) ≡ in_front ops o
    ops_tell h is t s [] rest some fit o after = after s
    ops_tell h is t s (op ∷ ops) rest some fit o after =
        ap (λ x. told_next lang h t s x (map lang.op_line ops ++ rest)
        (λ u z. told lang h u z (map lang.op_line ops ++ rest)))
        (reads.line_again h t s (Told op) is (some, fit.0))
        ∙ ap (front_op op) (ops_tell h is t (lang.more s op) ops rest some fit.1 o after)

    threads_tell : (h : H) → IsHeader h → (t : ℕ) (s : S) (scripts : List (List Op))
        → AllFit lang IsHeader Fits h t scripts
        → told lang h t s (thread_lines lang t scripts) ≡ Some ([], scripts)
    threads_tell h is t s [] fit =
        ap (λ x. told_next lang h t s x [] (λ u z. told lang h u z []))
        (reads.line_again h t s End is fit)
    threads_tell h is t s (ops ∷ scripts) fit =
        let others : List L = thread_lines lang (t + 1) scripts in
        let lines : List L = map lang.op_line ops ++ others in
        ap (λ x. told_next lang h t s x lines (λ u z. told lang h u z lines))
        (reads.line_again h t s (Thread t) is (refl, fit.0))
        ∙ ap begin_thread (ops_tell h is (t + 1) (lang.begun h t) ops others (omega arith) fit.1
        (Some ([], scripts)) (λ z. threads_tell h is (t + 1) z scripts fit.2)
        ∙ front_all ops [] scripts)
        ∙ ap (λ (x : List Op). Some ([], x ∷ scripts)) (append-nil ops)

    script_told : (h : H) (scripts : List (List Op)) → IsHeader h
        → AllFit lang IsHeader Fits h 0 scripts
        → told lang h 0 (lang.begun h 0) (thread_lines lang 0 scripts) ≡ Some ([], scripts)
    script_told h scripts is fit = threads_tell h is 0 (lang.begun h 0) scripts fit

    pub scripts_are_one : (ls : List L) (h k : H) (scripts others : List (List Op))
        → IsScript lang IsHeader Fits ls h scripts → IsScript lang IsHeader Fits ls k others
        → (h ≡ k) × (scripts ≡ others)
    scripts_are_one ls h k scripts others a b =
        let lines : script_lines lang h scripts ≡ script_lines lang k others =
        sym a.spelled ∙ b.spelled in
        let first : lang.header_line h ≡ lang.header_line k =
        ap (λ (l : List L). get_or l 0 (lang.header_line h)) lines in
        let header : h ≡ k = some_is (sym (reads.header_again h a.header)
        ∙ ap lang.header_at first ∙ reads.header_again k b.header) in
        let rest : thread_lines lang 0 scripts ≡ thread_lines lang 0 others = ap (drop 1) lines in
        let same : Some ([], scripts) ≡ Some ([], others) =
        sym (script_told h scripts a.header a.fit)
        ∙ (λ i. told lang (header i) 0 (lang.begun (header i) 0) (rest i))
        ∙ script_told k others b.header b.fit in
        (header, ap (λ (r : List Op × List (List Op)). r.1) (some_is same))

    -- lines are a script or have a first that may not come, and never both
    told_apart_by : (ls : List L) (o : Option ℕ) → bad_line lang Start 1 ls ≡ o
        → ((h : H) × (scripts : List (List Op)) × IsScript lang IsHeader Fits ls h scripts)
        ⊎ ((n : ℕ) × (bad_line lang Start 1 ls ≡ Some n))
    told_apart_by ls None e = inl (lines_are_scripts ls e)
    told_apart_by ls (Some n) e = inr (n, e)

    pub told_apart : (ls : List L)
        → ((h : H) × (scripts : List (List Op)) × IsScript lang IsHeader Fits ls h scripts)
        ⊎ ((n : ℕ) × (bad_line lang Start 1 ls ≡ Some n))
    told_apart ls = told_apart_by ls (bad_line lang Start 1 ls) refl

    pub never_both : (ls : List L) (h : H) (scripts : List (List Op)) (n : ℕ)
        → IsScript lang IsHeader Fits ls h scripts → bad_line lang Start 1 ls ≡ Some n → ⊥
    never_both ls h scripts n script bad =
        let none : None ≡ Some n = sym (scripts_stand ls h scripts script) ∙ bad in absurd cc
