-- The commands of numbered deeds tell the deeds, and their replies the answers.
use Rattle.std.proofs.Common.{◌≡◌, ℕ, ◌-◌, false, true, cond, ne_eqb, refl, sym, ap, ◌∙◌, arith, List, [], ◌∷◌, ◌++◌, length}
use Rattle.std.proofs.lemmas.List.{append-nil}
use Rattle.never_heap.specs.declared.Command.{Command}
use Rattle.never_heap.specs.declared.Reply.{Reply}
use Rattle.array_tables.specs.operations.Linearizations.{answers_told}
use Rattle.array_tables.proofs.Lemmas.{applied, kept, linearized, linearized_so_far, slots_owe}
use Rattle.array_tables.specs.handle_table.Handles.{Answer, Matched, Found, Deed, Make, See, Drop, Take, Evict, Row, AreNumbered, ends, found_by, handle_config, id, is_yes, register_of_h, rows_of}
use Rattle.array_tables.proofs.handle_table.SlotApplication.{whole}
use Rattle.live_tables.specs.rows.Lawful.{Lawful}
use Rattle.live_tables.specs.rows.Rows.{answer_told}
use Rattle.live_tables.specs.handles.Decoding.{Reading, deeds_from, deeds_of, fetched_next, h_of, made_next, nothing_read, set_next}
use Rattle.live_tables.specs.handles.Live.{commands_of, handles}
use Rattle.live_tables.proofs.handles.Bounds.{fits_there}
use Rattle.live_tables.proofs.handles.Makes.{numbered_more}

-- what is read of the commands of deeds that others follow
pub record IsRead (t : ℕ) (r : Reading) (ops : List Deed) (ks : List Command) : Type 0 where
  pub next : Reading
  pub told : deeds_from t r (commands_of ops ++ ks) ≡ ops ++ deeds_from t next ks

h_again : (h : ℕ) → h_of (register_of_h h) ≡ h
h_again h = omega arith

pub read_on : (slots t : ℕ) (r : Reading) (ops : List Deed) (ks : List Command)
    → AreNumbered slots t r.made r.last ops → IsRead t r ops ks
read_on slots t r [] ks all = record { next = r; told = refl }
read_on slots t r (Take i ∷ ops) ks all =
    let rest = read_on slots t (fetched_next i true r) ops ks all.1 in
    record { next = rest.next; told = ap (λ l. Take i ∷ l) rest.told }
read_on slots t r (Evict i ∷ ops) ks all =
    let rest = read_on slots t (fetched_next i false r) ops ks all.1 in
    record { next = rest.next; told = ap (λ l. Evict i ∷ l) rest.told }
read_on slots t r (See u j h i ∷ ops) ks all =
    let rest = read_on slots t (fetched_next i true r) ops ks all.1 in
    let later : List Command = commands_of ops ++ ks in
    let number : r.last h - 1 ≡ j = omega (arith, all.0.1) in
    record {
      next = rest.next;
      told = (λ k. See t (r.last (h_again h k) - 1) (h_again h k) i
          ∷ deeds_from t (fetched_next i true r) later)
          ∙ (λ k. See (sym all.0.0 k) (number k) h i ∷ rest.told k);
    }
read_on slots t r (Drop u j h i ∷ ops) ks all =
    let rest = read_on slots t r ops ks all.1 in
    let later : List Command = commands_of ops ++ ks in
    let number : r.last h - 1 ≡ j = omega (arith, all.0.1) in
    record {
      next = rest.next;
      told = ap (λ b. cond b (Make t r.made (h_of 2) i r.before ∷ deeds_from t (made_next (h_of 2) r) later)
          (Drop t (r.last (h_of (register_of_h h)) - 1) (h_of (register_of_h h)) i ∷ deeds_from t r later))
          (ne_eqb (register_of_h h) 2 (λ z. omega (arith, z)))
          ∙ (λ k. Drop t (r.last (h_again h k) - 1) (h_again h k) i ∷ deeds_from t r later)
          ∙ (λ k. Drop (sym all.0.0 k) (number k) h i ∷ rest.told k);
    }
read_on slots t r (Make u j h i x ∷ ops) ks all =
    let there : Reading = set_next (id u j) (set_next x r) in
    let rest = read_on slots t (made_next h there) ops ks all.1 in
    let later : List Command = commands_of ops ++ ks in
    record {
      next = rest.next;
      told = (λ k. Make t r.made (h_again h k) i x ∷ deeds_from t (made_next (h_again h k) there) later)
          ∙ (λ k. Make (sym all.0.0 k) (sym all.0.1 k) h i x ∷ rest.told k);
    }

pub decoded : (slots t : ℕ) (ops : List Deed) → AreNumbered slots t 0 (λ h. 0) ops
    → deeds_of t (commands_of ops) ≡ ops
decoded slots t ops all =
    ap (deeds_of t) (sym (append-nil (commands_of ops)))
    ∙ (read_on slots t nothing_read ops [] all).told
    ∙ append-nil ops

pub told_one : (op : Deed) (rows : List Row) (rs more : List Reply)
    → length rs ≡ length (rows_of op)
    → answers_told ends [] (rows_of op ++ rows) (rs ++ more)
    ≡ answer_told handles op rs ∷ answers_told ends [] rows more
told_one (Take i) rows (a ∷ b ∷ c ∷ d ∷ []) more same = refl
told_one (Evict i) rows (a ∷ b ∷ c ∷ d ∷ e ∷ []) more same = refl
told_one (See t j h i) rows (a ∷ b ∷ []) more same = refl
told_one (Drop t j h i) rows (a ∷ b ∷ []) more same = refl
told_one (Make t j h i x) rows (a ∷ b ∷ c ∷ d ∷ e ∷ f ∷ g ∷ q ∷ r ∷ []) more same = refl
told_one op rows rs more same = absurd (omega arith)

abbrev pub law : Lawful handles
law = record {
  whole = whole;
  told = told_one;
  decoded = λ t ops read. decoded read.0 t ops read.1;
  begins = λ t ops ks read. (let r = read_on read.0 t nothing_read ops ks read.1 in
      (deeds_from t r.next ks, r.told));
  none = λ n t. tt;
  more = λ n t ops op all one. numbered_more n t 0 (λ h. 0) ops op all one;
  read = λ n t ops all. (n, all);
  ordered = λ n slots blocks rate scripts h count inside run.
      linearized (applied (kept slots) (handle_config n slots blocks) rows_of scripts
      (slots_owe n slots blocks scripts count inside)) rate h run;
  so_far = λ n slots blocks rate scripts h count inside begun.
      linearized_so_far (applied (kept slots) (handle_config n slots blocks) rows_of scripts
      (slots_owe n slots blocks scripts count inside)) rate h begun;
  wide = λ n slots blocks. refl;
  fits = λ n slots blocks t ops op few_threads few low short all next.
      fits_there n slots blocks few t few_threads low ops short op next;
}
