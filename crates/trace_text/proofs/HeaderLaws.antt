-- The header that is read is the header that is written so, and what is written is read again;
-- and where none is read, the reason is that of the first test that holds.
use Rattle.std.proofs.Common.{◌≡◌, ℕ, ◌≤◌, Bool, true, false, cond, ltb, not, ◌&&◌, ◌||◌, List, decimal, Option, Some, None, is_some, Result, Ok, Err, refl, sym, ap, subst, ◌∙◌, arith}
use Rattle.std.specs.Option.{ok_or, unwrap_or}
use Rattle.std.proofs.lemmas.Bool.Decides.{nat_tests}
use Rattle.block_store.specs.declared.Config.{Config}
use Rattle.block_store.specs.declared.Width.{Width}
use Rattle.block_store.specs.Configs.{IsInBounds}
use Rattle.trace_text.specs.declared.trace_faults.Why.{Why}
use Rattle.trace_text.specs.declared.trace_faults.Why.TheVariants as whys
use Rattle.trace_text.specs.Spellings.{header}
use Rattle.trace_text.specs.Reading.{number_at}
use Rattle.trace_text.specs.Headers.{Labels, labels_at}
use Rattle.trace_text.specs.Said.{◌>>=◌, spelled, bounded_at, header_at}
use Rattle.trace_text.specs.Refusals.{is_outside, numbers_fault, header_fault, numbers_config, config_of}
use Rattle.trace_text.proofs.NumberLaws.{number_sound, number_complete}
use Rattle.trace_text.proofs.LabelLaws.{labels, labels_sound, labels_complete}
use Rattle.trace_text.proofs.LineLaws.{reason, bind_ok, from_option}
use Rattle.trace_text.proofs.Binds.{same_Ok}

-- ---- reasons

-- the five numbers in their ranges
abbrev ranged_config : Width → ℕ → ℕ → ℕ → ℕ → ℕ → Result Config Why
ranged_config w n m l o s = do
  threads ← bounded_at 1 16 n
  blocks ← bounded_at 1 65535 m
  live ← bounded_at 0 65535 l
  object ← bounded_at 1 1024 o
  shared ← bounded_at 0 1024 s
  Ok (record {
    width = w;
    threads = threads;
    blocks = blocks;
    live = live;
    object = object;
    shared = shared;
  })

abbrev out : Bool → ℕ → Result ℕ Why
out t n = cond t (Err whys.Size) (Ok n)

five_ranges : (w : Width) (a b d e f : Bool) (n m l o s : ℕ)
    → reason {A = Config}
    (out a n >>= λ nn. out b m >>= λ mm. out d l >>= λ ll. out e o >>= λ oo. out f s >>= λ ss. Ok
    (record { width = w; threads = nn; blocks = mm; live = ll; object = oo; shared = ss }))
    ≡ cond (a || b || d || e || f) (Some whys.Size) None
five_ranges w true b d e f n m l o s = refl
five_ranges w false true d e f n m l o s = refl
five_ranges w false false true e f n m l o s = refl
five_ranges w false false false true f n m l o s = refl
five_ranges w false false false false true n m l o s = refl
five_ranges w false false false false false n m l o s = refl

five_numbers : (a b d e f : Option ℕ) (g : ℕ → ℕ → ℕ → ℕ → ℕ → Result Config Why)
    → reason (ok_or a whys.Number >>= λ n. ok_or b whys.Number >>= λ m. ok_or d whys.Number
    >>= λ l. ok_or e whys.Number >>= λ o. ok_or f whys.Number >>= λ s. g n m l o s)
    ≡ cond (not (is_some a && is_some b && is_some d && is_some e && is_some f))
    (Some whys.Number) (reason
    (g (unwrap_or a 0) (unwrap_or b 0) (unwrap_or d 0) (unwrap_or e 0) (unwrap_or f 0)))
five_numbers None b d e f g = refl
five_numbers (Some n) None d e f g = refl
five_numbers (Some n) (Some m) None e f g = refl
five_numbers (Some n) (Some m) (Some l) None f g = refl
five_numbers (Some n) (Some m) (Some l) (Some o) None g = refl
five_numbers (Some n) (Some m) (Some l) (Some o) (Some s) g = refl

abbrev of_labels : Option Labels → Result Config Why
of_labels tokens = ok_or tokens whys.Header >>= λ p. spelled p.1 >>= λ n. spelled p.2
    >>= λ m. spelled p.3 >>= λ l. spelled p.4 >>= λ o. spelled p.5
    >>= λ s. ranged_config p.0 n m l o s

labels_agree : (o : Option Labels) → numbers_fault o ≡ reason (of_labels o)
labels_agree None = refl
labels_agree (Some p) =
    let a = number_at p.1 in
    let b = number_at p.2 in
    let d = number_at p.3 in
    let e = number_at p.4 in
    let f = number_at p.5 in
    let n = unwrap_or a 0 in
    let m = unwrap_or b 0 in
    let l = unwrap_or d 0 in
    let o = unwrap_or e 0 in
    let s = unwrap_or f 0 in
    let ranges = five_ranges p.0 (is_outside 1 16 n) (is_outside 1 65535 m) (is_outside 0 65535 l)
    (is_outside 1 1024 o) (is_outside 0 1024 s) n m l o s in
    sym (five_numbers a b d e f (ranged_config p.0)
    ∙ ap (cond (not (is_some a && is_some b && is_some d && is_some e && is_some f))
    (Some whys.Number)) ranges)

-- a header says something exactly where nothing is wrong with it
pub header_agrees : (ps : List (List ℕ)) → header_fault ps ≡ reason (header_at ps)
unfolding header_fault header_at
header_agrees ps = labels_agree (labels_at ps)

-- ---- what is said is what is written so

in_range : (t : Bool) (n m : ℕ) → out t n ≡ Ok m → (t ≡ false) × (n ≡ m)
in_range true n m e = absurd cc
in_range false n m e = (refl, same_Ok n m e)

bounded_sound : (least most n m : ℕ) → bounded_at least most n ≡ Ok m
    → (n ≡ m) × (least ≤ n) × (n ≤ most)
bounded_sound least most n m e =
    let t = in_range (ltb n least || ltb most n) n m e in
    (t.1, grind (arith, nat_tests), grind (arith, nat_tests))

bounded_complete : (least most n : ℕ) → least ≤ n → n ≤ most → bounded_at least most n ≡ Ok n
bounded_complete least most n low high =
    let within : (ltb n least || ltb most n) ≡ false = grind (arith, nat_tests) in
    rw within refl

-- five numbers in the place of five tokens
placed : (ps : List (List ℕ)) (w : Width) (a b d f g : List ℕ) (n m l o s : ℕ)
    → ps ≡ labels w a b d f g → a ≡ decimal n → b ≡ decimal m → d ≡ decimal l → f ≡ decimal o
    → g ≡ decimal s → ps ≡ labels w (decimal n) (decimal m) (decimal l) (decimal o) (decimal s)
placed ps w a b d f g n m l o s e ea eb ed ef eg = rw (e, ea, eb, ed, ef, eg) refl

pub record SaysHeader (ps : List (List ℕ)) (c : Config) : Type 0 where
  pub text : ps ≡ header c
  pub fits : IsInBounds c
  pub config : config_of ps ≡ c

-- a token that is a number in a range
record IsRanged (least most : ℕ) (token : List ℕ) (k : ℕ) : Type 0 where
  text : token ≡ decimal k
  low : least ≤ k
  high : k ≤ most
  value : unwrap_or (number_at token) 0 ≡ k

ranged : (least most : ℕ) (token : List ℕ) (n k : ℕ) → spelled token ≡ Ok n
    → bounded_at least most n ≡ Ok k → IsRanged least most token k
ranged least most token n k spells within =
    let is = from_option (number_at token) whys.Number n spells in
    let b = bounded_sound least most n k within in
    record {
      text = (number_sound token n is).0 ∙ ap decimal b.0;
      low = omega (arith, b.0, b.1);
      high = omega (arith, b.0, b.2);
      value = ap (λ (o : Option ℕ). unwrap_or o 0) is ∙ b.0;
    }

same_config : (w : Width) (n m l o s nn mm ll oo ss : ℕ) → n ≡ nn → m ≡ mm → l ≡ ll → o ≡ oo
    → s ≡ ss → ◌≡◌ {A = Config}
    (record { width = w; threads = n; blocks = m; live = l; object = o; shared = s })
    (record { width = w; threads = nn; blocks = mm; live = ll; object = oo; shared = ss })
same_config w n m l o s nn mm ll oo ss a b d e f = rw (a, b, d, e, f) refl

said : (ps : List (List ℕ)) (p : Labels) (n m l o s : ℕ) → labels_at ps ≡ Some p
    → IsRanged 1 16 p.1 n → IsRanged 1 65535 p.2 m → IsRanged 0 65535 p.3 l
    → IsRanged 1 1024 p.4 o → IsRanged 0 1024 p.5 s
    → SaysHeader ps (record {
      width = p.0;
      threads = n;
      blocks = m;
      live = l;
      object = o;
      shared = s;
    })
unfolding config_of
said ps p n m l o s is a b d f g =
    record {
      text = placed ps p.0 p.1 p.2 p.3 p.4 p.5 n m l o s
          (labels_sound ps p is) a.text b.text d.text f.text g.text;
      fits = record {
        some_thread = a.low;
        threads = a.high;
        some_block = b.low;
        blocks = b.high;
        live = d.high;
        some_object = f.low;
        object = f.high;
        shared = g.high;
      };
      config = ap numbers_config is
          ∙ same_config p.0 _ _ _ _ _ n m l o s a.value b.value d.value f.value g.value;
    }

pub header_sound : (ps : List (List ℕ)) (c : Config) → header_at ps ≡ Ok c → SaysHeader ps c
unfolding header_at
header_sound ps c e =
    bind_ok (ok_or (labels_at ps) whys.Header) _ c e (λ p is_p r0.
    bind_ok (spelled p.1) _ c r0 (λ n is_n r1.
    bind_ok (spelled p.2) _ c r1 (λ m is_m r2.
    bind_ok (spelled p.3) _ c r2 (λ l is_l r3.
    bind_ok (spelled p.4) _ c r3 (λ o is_o r4.
    bind_ok (spelled p.5) _ c r4 (λ s is_s r5.
    bind_ok (bounded_at 1 16 n) _ c r5 (λ nn is_nn r6.
    bind_ok (bounded_at 1 65535 m) _ c r6 (λ mm is_mm r7.
    bind_ok (bounded_at 0 65535 l) _ c r7 (λ ll is_ll r8.
    bind_ok (bounded_at 1 1024 o) _ c r8 (λ oo is_oo r9.
    bind_ok (bounded_at 0 1024 s) _ c r9 (λ ss is_ss r10.
    subst (SaysHeader ps) (same_Ok _ c r10)
    (said ps p nn mm ll oo ss (from_option (labels_at ps) whys.Header p is_p)
    (ranged 1 16 p.1 n nn is_n is_nn) (ranged 1 65535 p.2 m mm is_m is_mm)
    (ranged 0 65535 p.3 l ll is_l is_ll)
    (ranged 1 1024 p.4 o oo is_o is_oo) (ranged 0 1024 p.5 s ss is_s is_ss)))))))))))))

pub header_complete : (c : Config) → IsInBounds c → header_at (header c) ≡ Ok c
unfolding header_at
header_complete c fits =
    rw (
      labels_complete c.width (decimal c.threads) (decimal c.blocks) (decimal c.live)
          (decimal c.object) (decimal c.shared),
      number_complete c.threads (omega arith),
      number_complete c.blocks (omega arith),
      number_complete c.live (omega arith),
      number_complete c.object (omega arith),
      number_complete c.shared (omega arith),
      bounded_complete 1 16 c.threads fits.some_thread fits.threads,
      bounded_complete 1 65535 c.blocks fits.some_block fits.blocks,
      bounded_complete 0 65535 c.live (omega arith) fits.live,
      bounded_complete 1 1024 c.object fits.some_object fits.object,
      bounded_complete 0 1024 c.shared (omega arith) fits.shared,
    ) refl
