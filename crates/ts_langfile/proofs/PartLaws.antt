-- The laws of the smallest parts of a language file.
use Rattle.std.proofs.Common.{◌≡◌, refl, sym, ◌∙◌, ap, subst, ℕ, zero, suc, ℤ, ◌^◌, ◌<◌, ◌≤◌, Bool, true, false, nat_le, nat_lt, nat_eq, ◌&&◌, List, [], ◌∷◌, ◌++◌, length, drop, Option, Some, None, Ok, is_some, arith}
use Rattle.std.specs.Int.{w32, cast_signed, cast_unsigned, to_be_bytes}
use Rattle.std.specs.Int.RustNames.{FitsSigned}
use Rattle.std.specs.List.{AllByRecursion}
use Rattle.std.specs.Str.{is_utf8}
use Rattle.ts_base.specs.Bytes.{Bytes}
use Rattle.ts_core.specs.declared.flat.Alias.{Alias}
use Rattle.ts_core.specs.declared.flat.Assoc.{Assoc}
use Rattle.ts_core.specs.declared.symbol.Kind.{Kind}
use Rattle.ts_core.specs.declared.symbol.Symbol.{Symbol}
use Rattle.spec_tables.specs.Fit.{IfThere}
use Rattle.ts_langfile.specs.Reader.{Reader, ◌>>=◌, give, bytes_at, tested}
use Rattle.ts_langfile.specs.Spelling.{text, number16, number32, signed32, flag, kind, assoc, alias, optional, symbol, listed}
use Rattle.ts_langfile.specs.Parts.{text_at, number16_at, number32_at, signed32_at, tag_at, flag_at, count_at, kind_at, kind_of, assoc_at, assoc_of, alias_at, optional_by, optional_at, symbol_at, symbols_at, listed_at}
use Rattle.ts_langfile.specs.Right.{IsShortText, IsBetween}
use Rattle.ts_langfile.proofs.LawLemmas.{AreBytes, Took, Law, went_on, then_law, as_law, spelled_law, alone_law, made_law, give_law, tested_law, times_law, number16_law, number32_law, byte_law, bytes_law}

-- a test that is passed
pub le_true : (a b : ℕ) → nat_le a b ≡ true → a ≤ b
le_true a b e = grind arith

pub true_le : (a b : ℕ) → a ≤ b → nat_le a b ≡ true
true_le a b e = grind arith

pub lt_true : (a b : ℕ) → nat_lt a b ≡ true → a < b
lt_true a b e = grind arith

pub true_lt : (a b : ℕ) → a < b → nat_lt a b ≡ true
true_lt a b e = grind arith

pub and_true : (a b : Bool) → (a && b) ≡ true → (a ≡ true) × (b ≡ true)
and_true true b e = (refl, e)
and_true false b e = absurd cc

pub true_and : (a b : Bool) → a ≡ true → b ≡ true → (a && b) ≡ true
true_and a b e f = rw (e, f) refl

-- ---- texts and numbers

pub text_law : Law text_at text IsShortText
unfolding text_at
text_law = as_law (then_law (λ (t : Bytes). length t) number32_law (λ n right. alone_law (tested_law is_utf8 (bytes_law n))) (λ n t right. right.0))
    (λ t right. (right.0, right.1.1)) (λ t right. (right.0, (refl, right.1)))

pub count_law : (most : ℕ) → Law (count_at most) number32 (λ n. (n < 2 ^ 32) × (n ≤ most))
unfolding count_at
count_law most = as_law (tested_law (λ n. nat_le n most) number32_law) (λ n right. (right.0, le_true n most right.1)) (λ n right. (right.0, true_le n most right.1))

-- ---- tags

pub tag_law : (most : ℕ) → Law (tag_at most) (λ tag. tag ∷ []) (λ tag. tag ≤ most)
unfolding tag_at
tag_law most = as_law (tested_law (λ tag. nat_le tag most) byte_law) (λ tag right. le_true tag most right.1) (λ tag right. (tt, true_le tag most right))

-- a tag, and what stands behind it
pub tagged_law : {A : Type 0} {next : ℕ → Reader A} {spelled : A → Bytes} {Right : ℕ → A → Type 0} (most : ℕ) → ((tag : ℕ) → tag ≤ most → Law (next tag) (λ x. drop 1 (spelled x)) (Right tag))
    → ((tag : ℕ) (x : A) → tag ≤ most → Right tag x → spelled x ≡ tag ∷ drop 1 (spelled x)) → Law (tag_at most >>= next) spelled (λ x. (tag : ℕ) × (tag ≤ most) × Right tag x)
tagged_law {A = A} {next = next} {spelled = spelled} most behind begins = record {
  takes = λ bytes x rest are e.
      let w = went_on (tag_at most bytes) next x rest e in
      let one = (tag_law most).takes bytes w.0 w.1 are w.2 in
      let two = (behind w.0 one.1).takes w.1 x rest one.0.behind w.3 in
      let parts : bytes ≡ w.0 ∷ (drop 1 (spelled x) ++ rest) = one.0.parts ∙ ap (λ (b : Bytes). w.0 ∷ b) two.0.parts in
      let whole : bytes ≡ spelled x ++ rest = parts ∙ ap (λ (b : Bytes). b ++ rest) (sym (begins w.0 x one.1 two.1)) in
      (record { parts = whole; behind = two.0.behind }, (w.0, one.1, two.1));
  again = λ x rest right.
      let regrouped : spelled x ++ rest ≡ (right.0 ∷ []) ++ (drop 1 (spelled x) ++ rest) = ap (λ (b : Bytes). b ++ rest) (begins right.0 x right.1 right.2) in
      let one : tag_at most ((right.0 ∷ []) ++ (drop 1 (spelled x) ++ rest)) ≡ Ok (right.0, drop 1 (spelled x) ++ rest) = (tag_law most).again right.0 (drop 1 (spelled x) ++ rest) right.1 in
      rw (regrouped, one) ((behind right.0 right.1).again x rest right.2);
}

flag_is : (tag : ℕ) → tag ≤ 1 → flag (nat_eq tag 1) ≡ tag ∷ []
flag_is zero le = refl
flag_is (suc zero) le = refl
flag_is (suc (suc tag)) le = absurd (omega arith)

flag_tag : (b : Bool) → (tag : ℕ) × (b ≡ nat_eq tag 1) × (tag ≤ 1)
flag_tag false = (0, refl, omega arith)
flag_tag true = (1, refl, omega arith)

pub flag_law : Law flag_at flag (λ b. Unit {0})
unfolding flag_at
flag_law = as_law (made_law (λ tag. nat_eq tag 1) flag (tag_law 1) flag_is) (λ b right. tt) (λ b right. flag_tag b)

kind_is : (tag : ℕ) → tag ≤ 2 → kind (kind_of tag) ≡ tag ∷ []
kind_is zero le = refl
kind_is (suc zero) le = refl
kind_is (suc (suc zero)) le = refl
kind_is (suc (suc (suc tag))) le = absurd (omega arith)

kind_tag : (k : Kind) → (tag : ℕ) × (k ≡ kind_of tag) × (tag ≤ 2)
kind_tag Kind.Named = (0, refl, omega arith)
kind_tag Kind.Anonymous = (1, refl, omega arith)
kind_tag Kind.Hidden = (2, refl, omega arith)

pub kind_law : Law kind_at kind (λ k. Unit {0})
unfolding kind_at
kind_law = as_law (made_law kind_of kind (tag_law 2) kind_is) (λ k right. tt) (λ k right. kind_tag k)

assoc_is : (tag : ℕ) → tag ≤ 2 → assoc (assoc_of tag) ≡ tag ∷ []
assoc_is zero le = refl
assoc_is (suc zero) le = refl
assoc_is (suc (suc zero)) le = refl
assoc_is (suc (suc (suc tag))) le = absurd (omega arith)

assoc_tag : (a : Assoc) → (tag : ℕ) × (a ≡ assoc_of tag) × (tag ≤ 2)
assoc_tag Assoc.Absent = (0, refl, omega arith)
assoc_tag Assoc.Left = (1, refl, omega arith)
assoc_tag Assoc.Right = (2, refl, omega arith)

pub assoc_law : Law assoc_at assoc (λ a. Unit {0})
unfolding assoc_at
assoc_law = as_law (made_law assoc_of assoc (tag_law 2) assoc_is) (λ a right. tt) (λ a right. assoc_tag a)

-- ---- options and lists

abbrev pub inner_of : {A : Type 0} → (A → Bytes) → Option A → Bytes
inner_of spelled None = []
inner_of spelled (Some x) = spelled x

abbrev pub IsThere : {A : Type 0} → (A → Type 0) → Bool → Option A → Type 0
IsThere Right there o = (is_some o ≡ there) × IfThere Right o

pub optional_by_law : {A : Type 0} {part : Reader A} {spelled : A → Bytes} {Right : A → Type 0} → Law part spelled Right → (there : Bool) → Law (optional_by part there) (inner_of spelled) (IsThere Right there)
optional_by_law {A = A} {spelled = spelled} {Right = Right} law false =
    as_law (spelled_law (give_law None) (λ o right. ap (inner_of spelled) (sym right))) to from
  where
    to : (o : Option A) → o ≡ None → IsThere Right false o
    to None e = (refl, tt)
    to (Some x) e = absurd cc

    from : (o : Option A) → IsThere Right false o → o ≡ None
    from None right = refl
    from (Some x) right = absurd (let e = right.0 in cc)
optional_by_law {A = A} {spelled = spelled} {Right = Right} law true =
    as_law (made_law Some (inner_of spelled) law (λ x right. refl)) to from
  where
    to : (o : Option A) → (x : A) × (o ≡ Some x) × Right x → IsThere Right true o
    to o right = subst (IsThere Right true) (sym right.1) (refl, right.2)

    from : (o : Option A) → IsThere Right true o → (x : A) × (o ≡ Some x) × Right x
    from None right = absurd (let e = right.0 in cc)
    from (Some x) right = (x, refl, right.1)

pub optional_law : {A : Type 0} {part : Reader A} {spelled : A → Bytes} {Right : A → Type 0} → Law part spelled Right → Law (optional_at part) (optional spelled) (IfThere Right)
optional_law {A = A} {spelled = spelled} {Right = Right} law =
    spelled_law (as_law (then_law is_some flag_law (λ there right. optional_by_law law there) (λ there o right. right.0)) (λ o right. right.1.1) (λ o right. (tt, (refl, right)))) (λ o right. same o)
  where
    same : (o : Option A) → flag (is_some o) ++ inner_of spelled o ≡ optional spelled o
    same None = refl
    same (Some x) = refl

pub listed_law : {A : Type 0} {part : Reader A} {spelled : A → Bytes} {Right : A → Type 0} → Law part spelled Right → Law (listed_at part) (listed spelled) (λ xs. (length xs < 2 ^ 32) × AllByRecursion Right xs)
listed_law {A = A} law =
    as_law (then_law (λ (xs : List A). length xs) number32_law (λ n right. alone_law (times_law law n)) (λ n xs right. right.0))
    (λ xs right. (right.0, right.1.1)) (λ xs right. (right.0, (refl, right.1)))

-- ---- symbols

pub symbol_law : (least bound : ℕ) → Law (symbol_at least bound) symbol (IsBetween least bound)
unfolding symbol_at
symbol_law least bound = as_law (made_law made symbol (tested_law test number16_law) (λ n right. refl)) to from
  where
    made : ℕ → Symbol
    made n = record { 0 = n }

    test : ℕ → Bool
    test n = nat_le least n && nat_lt n bound

    to : (s : Symbol) → (n : ℕ) × (s ≡ made n) × ((n < 2 ^ 16) × (test n ≡ true)) → IsBetween least bound s
    to s right =
        let tests = and_true (nat_le least right.0) (nat_lt right.0 bound) right.2.1 in
        subst (IsBetween least bound) (sym right.1) (right.2.0, le_true least right.0 tests.0, lt_true right.0 bound tests.1)

    from : (s : Symbol) → IsBetween least bound s → (n : ℕ) × (s ≡ made n) × ((n < 2 ^ 16) × (test n ≡ true))
    from s right = (s.0, refl, (right.0, true_and _ _ (true_le least s.0 right.1) (true_lt s.0 bound right.2)))

pub symbols_law : (least bound : ℕ) → Law (symbols_at least bound) (listed symbol) (λ xs. (length xs < 2 ^ 32) × AllByRecursion (IsBetween least bound) xs)
unfolding symbols_at
symbols_law least bound = listed_law (symbol_law least bound)

pub alias_law : Law alias_at alias (λ a. IsShortText a.name)
unfolding alias_at
alias_law = as_law (then_law (λ (a : Alias). a.name) text_law (λ name rn. then_law (λ (a : Alias). a.named) flag_law (λ named rf. give_law (record { name = name; named = named })) (λ named a right. ap (λ (a : Alias). a.named) right))
    (λ name a right. ap (λ (a : Alias). a.name) right.1))
    (λ a right. right.0) (λ a right. (right, (tt, refl)))
