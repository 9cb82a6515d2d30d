-- The commands of operations tell the operations, and their replies the answers.
use Rattle.std.proofs.Common.{◌≡◌, ℕ, ◌+◌, None, refl, ap, sym, ◌∙◌, arith, List, [], ◌∷◌, ◌++◌, length}
use Rattle.std.proofs.lemmas.List.{append-nil}
use Rattle.never_heap.specs.declared.Command.{Command}
use Rattle.never_heap.specs.declared.Reply.{Reply}
use Rattle.array_tables.specs.operations.Linearizations.{answers_told}
use Rattle.array_tables.proofs.Lemmas.{applied, linearized, linearized_so_far, rings_owe}
use Rattle.array_tables.specs.number_rings.Rings.{Cell, Operation, Keep, Recall, Row, cell_config, ends, number_of, rows_of}
use Rattle.array_tables.proofs.number_rings.RingTable.{whole}
use Rattle.array_tables.proofs.number_rings.RingTable as table
use Rattle.live_tables.specs.rows.Lawful.{Lawful}
use Rattle.live_tables.specs.rows.Rows.{answer_told}
use Rattle.live_tables.specs.rings.Decoding.{operations_from, operations_of}
use Rattle.live_tables.specs.rings.Live.{commands_of, rings}
use Rattle.live_tables.proofs.rings.Bounds.{fits_next, fits_there}
use Rattle.live_tables.proofs.rings.OneMore.{own_more, low_more, next_low, next_own}

-- what is read of the commands of operations that others follow
pub record IsRead (v : ℕ) (ops : List Operation) (ks : List Command) : Type 0 where
  pub next : ℕ
  pub told : operations_from v (commands_of ops ++ ks) ≡ ops ++ operations_from next ks

pub read_on : (v : ℕ) (ops : List Operation) (ks : List Command) → IsRead v ops ks
read_on v [] ks = record { next = v; told = refl }
read_on v (Keep i n ∷ ops) ks =
    let rest = read_on n ops ks in
    record { next = rest.next; told = ap (λ l. Keep i n ∷ l) rest.told }
read_on v (Recall i ∷ ops) ks =
    let rest = read_on v ops ks in
    record { next = rest.next; told = ap (λ l. Recall i ∷ l) rest.told }

pub told_one : (op : Operation) (rows : List Row) (rs more : List Reply)
    → length rs ≡ length (rows_of op)
    → answers_told ends [] (rows_of op ++ rows) (rs ++ more)
    ≡ answer_told rings op rs ∷ answers_told ends [] rows more
told_one (Keep i v) rows (a ∷ b ∷ c ∷ d ∷ []) more same = refl
told_one (Recall i) rows (a ∷ b ∷ []) more same = refl
told_one op rows rs more same = absurd (omega arith)

-- the commands of operations on numbers in places, whoever may do them
pub decoded : (ops : List Operation) → operations_of (commands_of ops) ≡ ops
decoded ops =
    ap operations_of (sym (append-nil (commands_of ops)))
    ∙ (read_on 0 ops []).told ∙ append-nil ops

pub begins : (ops : List Operation) (ks : List Command)
    → (more : List Operation) × (operations_of (commands_of ops ++ ks) ≡ ops ++ more)
begins ops ks = let r = read_on 0 ops ks in (operations_from r.next ks, r.told)

abbrev pub law : Lawful rings
law = record {
  whole = whole;
  told = told_one;
  decoded = λ t ops read. decoded ops;
  begins = λ t ops ks read. begins ops ks;
  none = λ n t. (tt, tt);
  more = λ n t ops op all one. (
    low_more n ops op all.0 (next_low n t ops op one),
    own_more t 0 ops op all.1 (next_own n t ops op one),
  );
  read = λ n t ops all. all.1;
  ordered = λ n places blocks rate scripts h count inside run.
      linearized (applied (table.rings places) (cell_config n places blocks) rows_of scripts
      (rings_owe n places blocks scripts count (λ t. (inside t).0))) rate h run;
  so_far = λ n places blocks rate scripts h count inside begun.
      linearized_so_far (applied (table.rings places) (cell_config n places blocks) rows_of scripts
      (rings_owe n places blocks scripts count (λ t. (inside t).0))) rate h begun;
  wide = λ n places blocks. refl;
  fits = λ n places blocks t ops op few_threads few low short all next.
      fits_there n places blocks few op (fits_next places t ops op next);
}
