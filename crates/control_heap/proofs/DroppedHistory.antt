-- A thread that has let its old commands and entries go does what it does with them.
use Rattle.std.proofs.Common.{◌≡◌, ℕ, suc, ◌+◌, ◌-◌, eqb, eq-eqb, ne_eqb, ◌&&◌, List, [], ◌∷◌, ◌++◌, length, length-append, append_assoc, append-nil, get_or, refl, sym, ap, ◌∙◌, arith, inl, inr}
use Rattle.std.proofs.lemmas.Bool.{cases_eq}
use Rattle.never_heap.specs.declared.Command.{Command}
use Rattle.never_heap.specs.declared.Command.TheVariants as commands
use Rattle.never_heap.specs.declared.Entry.{Entry}
use Rattle.never_heap.specs.RightWork.{requested_units, units_owed}
use Rattle.never_heap.specs.Steps.{blocks_of}
use Rattle.heap_system.specs.Locals.{LocalState, command_of, entries_of, balance_got, made_got, effect, part_got, local_got, is_done, is_rest, begun}
use Rattle.control_heap.specs.Controls.{with_history}
use Rattle.control_heap.specs.Growth.{given}

-- with so many commands and entries in front
abbrev pub behind : List Command → List Entry → LocalState → LocalState
behind ks es l = record l { before = 0; trace = ks ++ l.trace; log = es ++ l.log }

get_past : (xs ys : List Command) (d : Command) (n i : ℕ) → n ≡ length xs + i → get_or (xs ++ ys) n d ≡ get_or ys i d
get_past [] ys d n i e = (let z : n ≡ i = omega (arith, e) in ap (λ j. get_or ys j d) z)
get_past (x ∷ xs) ys d n i e = (let z : n ≡ suc (length xs + i) = omega (arith, e) in ap (λ j. get_or (x ∷ xs ++ ys) j d) z ∙ get_past xs ys d (length xs + i) i refl)

same_test : (a x y n m : ℕ) → n ≡ a + x → m ≡ a + y → eqb n m ≡ eqb x y
same_test a x y n m e f = elim (cases_eq x y) [
  | inl is ↦ eq-eqb n m (omega (arith, e, f, is)) ∙ sym (eq-eqb x y is)
  | inr ne ↦ ne_eqb n m (λ q. ne (omega (arith, e, f, q))) ∙ sym (ne_eqb x y ne)
]

module _ (ks : List Command) (es : List Entry) (long : length ks ≡ length es) where
  pub command_same : (l : LocalState) → command_of (behind ks es l) ≡ command_of l
  command_same l = get_past ks l.trace (commands.Nil 0) (length (es ++ l.log)) (length l.log) (let n : length (es ++ l.log) ≡ length es + length l.log = length-append es l.log in omega (arith, n, long))

  abbrev with_command : LocalState → Command → ℕ → LocalState
  with_command l m w =
      let e = effect l.config l.part w in
      record (local_got l w) {
        before = 0;
        trace = ks ++ l.trace;
        log = es ++ (l.log ++ entries_of l.thread m l.spent e.reply);
        balance = balance_got e (requested_units m) (blocks_of l.config.width m) l.balance;
        made = made_got m e.reply l.made;
        part = part_got l.config l.thread (record {
          command = m;
          due = units_owed l.config.width l.rate m - l.spent;
          serial = l.made + 1;
          space = l.space;
        }) l.pass l.part w;
      }

  pub behind_got : (l : LocalState) (w : ℕ) → local_got (behind ks es l) w ≡ behind ks es (local_got l w)
  behind_got l w = λ i. record (with_command l (command_same l i) w) {
    log = append_assoc es l.log (entries_of l.thread (command_same l i) l.spent (effect l.config l.part w).reply) i;
  }

  pub behind_done : (l : LocalState) → is_done (behind ks es l) ≡ is_done l
  behind_done l = ap (λ b. is_rest l.part && b) (same_test (length es) (length l.log) (length l.trace) (length (es ++ l.log)) (length (ks ++ l.trace)) (length-append es l.log) (let n : length (ks ++ l.trace) ≡ length ks + length l.trace = length-append ks l.trace in omega (arith, n, long)))

-- a thread that has let all go, with a command more
pub given_behind : (a l : LocalState) (k : Command) → a ≡ with_history a.trace a.log l → given k a ≡ behind a.trace a.log (begun k l)
given_behind a l k e = (λ i. record (e i) { trace = a.trace ++ k ∷ [] }) ∙ (λ i. record l { before = 0; trace = a.trace ++ k ∷ []; log = sym (append-nil a.log) i })

pub history_of : (a l : LocalState) (ks : List Command) (es : List Entry) → a ≡ behind ks es l → a ≡ with_history a.trace a.log l
history_of a l ks es e = e ∙ (λ i. with_history (sym (ap (λ (x : LocalState). x.trace) e) i) (sym (ap (λ (x : LocalState). x.log) e) i) l)
