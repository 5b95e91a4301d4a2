-- Where reading comes to the last count, it has come to all that is told before it.
use Rattle.std.proofs.Common.{◌≡◌, refl, sym, ◌∙◌, ap, subst, ℕ, suc, List, [], ◌∷◌, length, Option, Some, None, Ok, Err}
use Rattle.ts_base.specs.Bytes.{Bytes}
use Rattle.ts_core.specs.declared.symbol.Symbol.{Symbol}
use Rattle.spec_tables.specs.Fit.{most_names}
use Rattle.ts_langfile.specs.declared.flaw.Flaw.{Flaw}
use Rattle.ts_langfile.specs.declared.grammar.Head.{Head}
use Rattle.ts_langfile.specs.declared.grammar.ToFields.{ToFields}
use Rattle.ts_langfile.specs.declared.grammar.ToPrecs.{ToPrecs}
use Rattle.ts_langfile.specs.declared.known.Known.{Known}
use Rattle.ts_langfile.specs.Reader.{Reader, ◌>>=◌, give, times}
use Rattle.ts_langfile.specs.Parts.{text_at, count_at, optional_by, symbol_at}
use Rattle.ts_langfile.specs.Reading.{head_at, to_fields_at, to_precs_at, nothing_known, known_in, without_precs}
use Rattle.ts_langfile.proofs.LawLemmas.{seen_is, went_on}

abbrev to_fields : Head → Option Symbol → ℕ → ToFields
to_fields head word count = record { head = head; word = word; field_count = count }

abbrev to_precs : ToFields → List Bytes → ℕ → ToPrecs
to_precs before fields count = record { before = before; fields = fields; prec_count = count }

before_precs : (known : Known) (w : Bytes) (t : ToPrecs) (rest : Bytes) → to_precs_at known w ≡ Ok (t, rest) → (middle : Bytes) × (to_fields_at known w ≡ Ok (t.before, middle))
unfolding to_precs_at
before_precs known w t rest e =
    let a = went_on (to_fields_at known w) (λ (before : ToFields). times before.field_count text_at >>= λ (fields : List Bytes). count_at most_names >>= λ (count : ℕ). give (to_precs before fields count)) t rest e in
    let b = went_on (times a.0.field_count text_at a.1) (λ (fields : List Bytes). count_at most_names >>= λ (count : ℕ). give (to_precs a.0 fields count)) t rest a.3 in
    let c = went_on (count_at most_names b.1) (λ (count : ℕ). give (to_precs a.0 b.0 count)) t rest b.3 in
    let is = seen_is (to_precs a.0 b.0 c.0) t c.1 rest c.3 in
    let same : a.0 ≡ t.before = ap (λ (t : ToPrecs). t.before) is.0 in
    (a.1, subst (λ (before : ToFields). to_fields_at known w ≡ Ok (before, a.1)) same a.2)

before_fields : (known : Known) (w : Bytes) (t : ToFields) (rest : Bytes) → to_fields_at known w ≡ Ok (t, rest) → (middle : Bytes) × (head_at known w ≡ Ok (t.head, middle))
unfolding to_fields_at
before_fields known w t rest e =
    let a = went_on (head_at known w) (λ (head : Head). optional_by (symbol_at 1 (suc (length head.tokens))) head.has_word >>= λ (word : Option Symbol). count_at most_names >>= λ (count : ℕ). give (to_fields head word count)) t rest e in
    let b = went_on (optional_by (symbol_at 1 (suc (length a.0.tokens))) a.0.has_word a.1) (λ (word : Option Symbol). count_at most_names >>= λ (count : ℕ). give (to_fields a.0 word count)) t rest a.3 in
    let c = went_on (count_at most_names b.1) (λ (count : ℕ). give (to_fields a.0 b.0 count)) t rest b.3 in
    let is = seen_is (to_fields a.0 b.0 c.0) t c.1 rest c.3 in
    let same : a.0 ≡ t.head = ap (λ (t : ToFields). t.head) is.0 in
    (a.1, subst (λ (head : Head). head_at known w ≡ Ok (head, a.1)) same a.2)

abbrev all_known : ToPrecs → Known
all_known t = record { word = Some t.before.head.has_word; fields = Some t.before.field_count; precs = Some t.prec_count }

pub known_from : (w : Bytes) (t : ToPrecs) (rest : Bytes) → to_precs_at nothing_known w ≡ Ok (t, rest) → all_known t ≡ known_in w
unfolding known_in
known_from w t rest e =
    let fields = before_precs nothing_known w t rest e in
    let head = before_fields nothing_known w t.before fields.0 fields.1 in
    rw (head.1, fields.1, e) refl

pub known_without : (w : Bytes) (flaw : Flaw) → to_precs_at nothing_known w ≡ Err flaw → without_precs (known_in w) ≡ known_in w
unfolding known_in
known_without w flaw e = rw e refl
