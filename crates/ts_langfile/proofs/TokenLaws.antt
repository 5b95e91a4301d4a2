-- The laws of regular expressions and tokens.
use Rattle.std.proofs.Common.{◌≡◌, refl, sym, ◌∙◌, ap, subst, ℕ, zero, suc, ℤ, ◌^◌, ◌<◌, ◌≤◌, Bool, true, false, nat_le, ◌&&◌, List, [], ◌∷◌, ◌++◌, length, drop, Option, Ok, append_assoc, arith}
use Rattle.std.specs.Int.{w32}
use Rattle.std.specs.Int.RustNames.{FitsSigned}
use Rattle.std.specs.List.{AllByRecursion}
use Rattle.std.proofs.lemmas.List.{append-nil}
use Rattle.ts_base.specs.Bytes.{Bytes}
use Rattle.ts_core.specs.declared.flat.TokenDef.{TokenDef}
use Rattle.ts_core.specs.declared.re.Re.{Re}
use Rattle.ts_core.specs.declared.re.Re.TheVariants.{Empty, Set, Cat, Alt, Repeat}
use Rattle.ts_core.specs.declared.symbol.Kind.{Kind}
use Rattle.spec_tables.specs.Fit.{IfThere}
use Rattle.ts_langfile.specs.declared.known.Known.{Known}
use Rattle.ts_langfile.specs.Reader.{Reader, ◌>>=◌, give, tested, in_turn}
use Rattle.ts_langfile.specs.Spelling.{number32, range, optional, listed, re, token}
use Rattle.ts_langfile.specs.Parts.{number32_at, tag_at, flag_at, is_character, ends_range, range_at, ranges_at, behind_range, most_at, re_by, re_at, most_levels, may_be_keyword, token_at}
use Rattle.ts_langfile.proofs.ReLemmas.{spelled_empty, spelled_set, spelled_cat, spelled_alt, spelled_repeat}
use Rattle.ts_langfile.specs.Right.{InTurn, begins_range, RightRange, RightMost, ReBy, RightRe, RightToken}
use Rattle.ts_langfile.proofs.LawLemmas.{AreBytes, Took, Law, seen_is, went_on, then_law, as_law, spelled_law, alone_law, made_law, give_law, tested_law, turn_law, number32_law, passed}
use Rattle.ts_langfile.proofs.PartLaws.{text_law, tagged_law, flag_law, kind_law, optional_law, listed_law}
use Rattle.ts_langfile.proofs.SignedLaws.{signed_law}

pub range_law : (least : ℕ) → Law (range_at least) range (RightRange least)
unfolding range_at
range_law least = as_law
    (then_law (λ (r : ℕ × ℕ). r.0) (tested_law (begins_range least) number32_law) (λ low r1. then_law (λ (r : ℕ × ℕ). r.1) (tested_law (ends_range low) number32_law) (λ high r2. give_law (low, high))
    (λ high r right. ap (λ (r : ℕ × ℕ). r.1) right)) (λ low r right. ap (λ (r : ℕ × ℕ). r.0) right.1))
    (λ r right. (right.0, right.1.0)) (λ r right. (right.0, (right.1, refl)))

pub most_law : (least : ℕ) → Law (most_at least) (optional number32) (RightMost least)
unfolding most_at
most_law least = optional_law (tested_law (λ (most : ℕ). nat_le least most) number32_law)

-- ---- expressions

abbrev behind : Re → Bytes
behind r = drop 1 (re r)

ranges_law : Law ranges_at (listed range) (λ ranges. (length ranges < 2 ^ 32) × InTurn RightRange behind_range 0 ranges)
ranges_law = as_law
    (then_law (λ (ranges : List (ℕ × ℕ)). length ranges) number32_law (λ n r1. alone_law (turn_law behind_range range_law n 0)) (λ n ranges right. right.0))
    (λ ranges right. (right.0, right.1.1)) (λ ranges right. (right.0, (refl, right.1)))

repeat_behind : (inside : Re) (least : ℕ) (most : Option ℕ) (rest : Bytes) → behind (Repeat inside least most) ++ rest ≡ re inside ++ (number32 least ++ (optional number32 most ++ rest))
repeat_behind inside least most rest = rw (spelled_repeat inside least most) (simp (append_assoc, append-nil))

repeat_law : {inner : Reader Re} {Inner : Re → Type 0} (tag : ℕ) → Law inner re Inner → Law (re_by inner (suc (suc (suc (suc tag))))) behind (ReBy Inner (suc (suc (suc (suc tag)))))
repeat_law {inner = inner} {Inner = Inner} tag law = record {
  takes = λ bytes r rest are e.
      let a = went_on (inner bytes) (λ (inside : Re). number32_at >>= λ (least : ℕ). most_at least >>= λ (most : Option ℕ). give (Repeat inside least most)) r rest e in
      let b = went_on (number32_at a.1) (λ (least : ℕ). most_at least >>= λ (most : Option ℕ). give (Repeat a.0 least most)) r rest a.3 in
      let c = went_on (most_at b.0 b.1) (λ (most : Option ℕ). give (Repeat a.0 b.0 most)) r rest b.3 in
      let is = seen_is (Repeat a.0 b.0 c.0) r c.1 rest c.3 in
      let one = law.takes bytes a.0 a.1 are a.2 in
      let two = number32_law.takes a.1 b.0 b.1 one.0.behind b.2 in
      let three = (most_law b.0).takes b.1 c.0 c.1 two.0.behind c.2 in
      let parts : bytes ≡ re a.0 ++ (number32 b.0 ++ (optional number32 c.0 ++ c.1)) = one.0.parts ∙ ap (λ (x : Bytes). re a.0 ++ x) (two.0.parts ∙ ap (λ (x : Bytes). number32 b.0 ++ x) three.0.parts) in
      let whole : Took bytes (behind (Repeat a.0 b.0 c.0)) c.1 = record { parts = parts ∙ sym (repeat_behind a.0 b.0 c.0 c.1); behind = three.0.behind } in
      (subst (λ (x : Bytes). Took bytes (behind r) x) is.1 (subst (λ (x : Re). Took bytes (behind x) c.1) is.0 whole), (a.0, b.0, c.0, sym is.0, one.1, two.1, three.1));
  again = λ r rest right.
      let one : inner (re right.0 ++ (number32 right.1 ++ (optional number32 right.2 ++ rest))) ≡ Ok (right.0, number32 right.1 ++ (optional number32 right.2 ++ rest)) = law.again right.0 (number32 right.1 ++ (optional number32 right.2 ++ rest)) right.4 in
      let two : number32_at (number32 right.1 ++ (optional number32 right.2 ++ rest)) ≡ Ok (right.1, optional number32 right.2 ++ rest) = number32_law.again right.1 (optional number32 right.2 ++ rest) right.5 in
      let three : most_at right.1 (optional number32 right.2 ++ rest) ≡ Ok (right.2, rest) = (most_law right.1).again right.2 rest right.6 in
      rw (right.3, repeat_behind right.0 right.1 right.2 rest, one, two, three) refl;
}

re_by_law : {inner : Reader Re} {Inner : Re → Type 0} → Law inner re Inner → (tag : ℕ) → tag ≤ 4 → Law (re_by inner tag) behind (ReBy Inner tag)
re_by_law law zero le = spelled_law (give_law Empty) (λ r right. sym (ap behind right ∙ ap (drop 1) spelled_empty))
re_by_law law (suc zero) le = made_law Set behind ranges_law (λ ranges right. ap (drop 1) (spelled_set ranges))
re_by_law law (suc (suc zero)) le = made_law Cat behind (listed_law law) (λ parts right. ap (drop 1) (spelled_cat parts))
re_by_law law (suc (suc (suc zero))) le = made_law Alt behind (listed_law law) (λ parts right. ap (drop 1) (spelled_alt parts))
re_by_law law (suc (suc (suc (suc tag)))) le = repeat_law tag law

re_begins : (Inner : Re → Type 0) (tag : ℕ) (r : Re) → tag ≤ 4 → ReBy Inner tag r → re r ≡ tag ∷ behind r
re_begins Inner zero r le right = rw (right, spelled_empty) refl
re_begins Inner (suc zero) r le right = rw (right.1, spelled_set right.0) refl
re_begins Inner (suc (suc zero)) r le right = rw (right.1, spelled_cat right.0) refl
re_begins Inner (suc (suc (suc zero))) r le right = rw (right.1, spelled_alt right.0) refl
re_begins Inner (suc (suc (suc (suc zero)))) r le right = rw (right.3, spelled_repeat right.0 right.1 right.2) refl
re_begins Inner (suc (suc (suc (suc (suc tag))))) r le right = absurd (omega arith)

no_room : (bytes : Bytes) (r : Re) (rest : Bytes) → re_at 0 bytes ≡ Ok (r, rest) → ⊥
unfolding re_at
no_room bytes r rest e =
    let w = went_on (tested (tag_at 4) (λ (tag : ℕ). false) bytes) (λ (tag : ℕ). give Empty) r rest e in
    let p = passed (λ (tag : ℕ). false) bytes (tag_at 4 bytes) w.0 w.1 w.2 in
    absurd (let f = p.1 in cc)

pub re_law : (room : ℕ) → Law (re_at room) re (RightRe room)
unfolding re_at
re_law zero = record { takes = λ bytes r rest are e. absurd (no_room bytes r rest e); again = λ r rest right. absurd right }
re_law (suc room) = tagged_law 4 (re_by_law (re_law room)) (re_begins (RightRe room))

-- ---- tokens

abbrev token_of : Bytes → Kind → Re → ℤ → Bool → Bool → Bool → TokenDef
token_of name kind re prec literal immediate keyword = record { name = name; kind = kind; re = re; prec = prec; literal = literal; immediate = immediate; keyword = keyword }

pub token_law : (known : Known) → Law (token_at known) token (RightToken known)
unfolding token_at
token_law known = as_law
    (then_law (λ (d : TokenDef). d.name) text_law (λ name r1. then_law (λ (d : TokenDef). d.kind) kind_law (λ kind r2. then_law (λ (d : TokenDef). d.re) (re_law most_levels) (λ re r3.
    then_law (λ (d : TokenDef). d.prec) signed_law (λ prec r4. then_law (λ (d : TokenDef). d.literal) flag_law (λ literal r5. then_law (λ (d : TokenDef). d.immediate) flag_law (λ immediate r6.
    then_law (λ (d : TokenDef). d.keyword) (tested_law (may_be_keyword known literal) flag_law) (λ keyword r7. give_law (token_of name kind re prec literal immediate keyword))
    (λ keyword d right. ap (λ (d : TokenDef). d.keyword) right)) (λ immediate d right. ap (λ (d : TokenDef). d.immediate) right.1)) (λ literal d right. ap (λ (d : TokenDef). d.literal) right.1.1))
    (λ prec d right. ap (λ (d : TokenDef). d.prec) right.1.1.1)) (λ re d right. ap (λ (d : TokenDef). d.re) right.1.1.1.1)) (λ kind d right. ap (λ (d : TokenDef). d.kind) right.1.1.1.1.1)) (λ name d right. ap (λ (d : TokenDef). d.name) right.1.1.1.1.1.1))
    (λ d right. record { name = right.0; re = right.1.1.0; prec = right.1.1.1.0; keyword = right.1.1.1.1.1.1.0.1 })
    (λ d right. (right.name, (tt, (right.re, (right.prec, (tt, (tt, ((tt, right.keyword), refl))))))))
