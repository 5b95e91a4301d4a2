-- What the tables of a grammar say of its lines.
use Rattle.std.proofs.Common.{◌≡◌, ◌∙◌, sym, ap, refl, subst, ℕ, zero, suc, ◌+◌, ◌-◌, ◌<◌, ◌≤◌, inr, ⊎_elim, List, [], ◌++◌, length, take, drop, get_or, slice_get, Option, Some, None, arith, ◌↔◌, ◌^◌}
use Rattle.std.specs.Prelude.{MatchOption}
use Rattle.std.specs.Global.{Vec}
use Rattle.std.specs.List.{Contains}
use Rattle.std.proofs.lemmas.Option.{slice_get_within, slice_get-get_or}
use Rattle.ts_core.specs.declared.flat.FlatGrammar.{FlatGrammar}
use Rattle.spec_grammar.specs.Symbols.{start_symbol, symbol_count}
use Rattle.spec_tables.specs.Items.{CanBeginWith}
use Rattle.ts_bits.specs.declared.set.BitSet.{BitSet}
use Rattle.ts_bits.specs.Members.{Has, IsWide}
use Rattle.ts_items.specs.declared.part.Part.{Part}
use Rattle.ts_items.specs.Sets.{HasAt, GainsTokens, QueuesGains}
use Rattle.ts_items.specs.Flow.{Queued}
use Rattle.ts_items.specs.Rows.{RowHas, Puts, FromOne}
use Rattle.ts_items.specs.Numbers.{MovesTo, AreMoved}
use Rattle.ts_items.proofs.EachLemmas.{puts_none, puts_same}
use Rattle.ts_items.specs.Closing.{AskedBy, CanFollow}
use Rattle.ts_items.proofs.GainLemmas.{has_at, gains_same, gains_none}
use Rattle.ts_items.specs.declared.plain.Plain.{Plain}
use Rattle.ts_items.specs.declared.tables.Tables.{Tables}
use Rattle.ts_items.specs.Productions.{right_of}
use Rattle.ts_items.specs.Parts.{line_of}
use Rattle.ts_items.specs.Tables.{IsTables}
use Rattle.ts_items.proofs.ListLemmas.{written, read_at, there, none_at_nil, some_at}
use Rattle.ts_items.proofs.PlainLemmas.{plain_at}

line_is : (line n : ℕ) → (line ≡ 0 → ⊥) → n ≡ line - 1 → line_of line ≡ Some n
line_is zero n some is = absurd (some refl)
line_is (suc m) n some is = let same : m ≡ n = omega (arith, is) in ap Some same

pub line_right : (g : FlatGrammar) (t : Tables) (line at : ℕ) (p : Plain) (right : List ℕ) → IsTables g t → (line ≡ 0 → ⊥) → at ≡ line → line ≤ length t.productions.items → p ≡ get_or t.productions.items (at - 1) p → right ≡ p.right.items → right ≡ right_of g (line_of line)
line_right g t line at p right tables some same below read is =
    let one : 0 < line = positive line some in
    let here = read_at t.productions.items (at - 1) p (omega (arith, same, below, one)) read in
    let pa = plain_at g t.productions.items (at - 1) p tables.plain here in
    is ∙ sym pa.right ∙ ap (right_of g) (sym (line_is line (at - 1) some (ap (λ (n : ℕ). n - 1) same)))
  where
    positive : (n : ℕ) → (n ≡ 0 → ⊥) → 0 < n
    positive zero f = absurd (f refl)
    positive (suc n) f = omega arith

pub right_inside : (g : FlatGrammar) (t : Tables) (line k x : ℕ) → IsTables g t → line ≤ length t.productions.items → slice_get (right_of g (line_of line)) k ≡ Some x → x < symbol_count g
right_inside g t zero zero x tables below at = let e : Some (start_symbol g) ≡ Some x = at in let f : start_symbol g ≡ x = cc in let lt = tables.some in omega (arith, lt, f)
right_inside g t zero (suc k) x tables below at = absurd (none_at_nil k x at)
right_inside g t (suc n) k x tables below at =
    let ps = t.productions.items in
    let p = some_at ps n (omega (arith, below)) in
    let pa = plain_at g ps n p.0 tables.plain p.1 in
    (tables.inside p.0 (there ps n p.0 p.1)).right k x (ap (λ (l : List ℕ). slice_get l k) (sym pa.right) ∙ at)

-- the tokens that can come after the step at the dot of a part
pub follow_some : (g : FlatGrammar) (t : Tables) (pool : List BitSet) (q : Part) (at from x : ℕ) (sets : List BitSet) (s : BitSet) → IsTables g t → q.line ≤ length t.productions.items → Some x ≡ slice_get (right_of g (line_of q.line)) (at + 1) → at ≡ q.dot → from ≡ x
    → sets ≡ t.firsts.items → s ≡ get_or sets from s → (u : ℕ) → Has s u ↔ CanFollow g pool q u
follow_some g t pool q at from x sets s tables below is place same rows read u =
    let next : slice_get (right_of g (line_of q.line)) (suc q.dot) ≡ Some x = ap (λ (k : ℕ). slice_get (right_of g (line_of q.line)) k) (omega (arith, place)) ∙ sym is in
    let lt = right_inside g t q.line (suc q.dot) x tables below next in
    let size = tables.firsts.count in
    let all = ap (λ (l : List BitSet). length l) rows in
    let here : slice_get t.firsts.items x ≡ Some s = ap (λ (l : List BitSet). slice_get l x) (sym rows) ∙ ap (λ (k : ℕ). slice_get sets k) (sym same) ∙ read_at sets from s (omega (arith, lt, size, all, same)) read in (
      (λ h. subst (λ (o : Option ℕ). MatchOption o (HasAt pool q.tokens u) (λ z. CanBeginWith g z u)) (sym next) ((tables.firsts.members x u).0 ((has_at t.firsts.items x s here u).1 h))),
      (λ h. (has_at t.firsts.items x s here u).0 ((tables.firsts.members x u).1 (subst (λ (o : Option ℕ). MatchOption o (HasAt pool q.tokens u) (λ z. CanBeginWith g z u)) next h))),
    )

pub follow_wide : (g : FlatGrammar) (t : Tables) (q : Part) (at from x : ℕ) (sets : List BitSet) (s : BitSet) → IsTables g t → q.line ≤ length t.productions.items → Some x ≡ slice_get (right_of g (line_of q.line)) (at + 1) → at ≡ q.dot → from ≡ x
    → sets ≡ t.firsts.items → s ≡ get_or sets from s → IsWide t.width s
follow_wide g t q at from x sets s tables below is place same rows read =
    let lt = right_inside g t q.line (at + 1) x tables below (sym is) in
    let size = tables.firsts.count in
    let all = ap (λ (l : List BitSet). length l) rows in
    tables.firsts.wide from s (ap (λ (l : List BitSet). slice_get l from) (sym rows) ∙ read_at sets from s (omega (arith, lt, size, all, same)) read)

pub follow_none : (g : FlatGrammar) (pool : List BitSet) (q : Part) (at : ℕ) (s : BitSet) → ◌≡◌ {A = Option ℕ} None (slice_get (right_of g (line_of q.line)) (at + 1)) → at ≡ q.dot → slice_get pool q.tokens ≡ Some s → (u : ℕ) → Has s u ↔ CanFollow g pool q u
follow_none g pool q at s is place here u =
    let next : slice_get (right_of g (line_of q.line)) (suc q.dot) ≡ None = ap (λ (k : ℕ). slice_get (right_of g (line_of q.line)) k) (omega (arith, place)) ∙ sym is in (
      (λ h. subst (λ (o : Option ℕ). MatchOption o (HasAt pool q.tokens u) (λ z. CanBeginWith g z u)) (sym next) ((has_at pool q.tokens s here u).1 h)),
      (λ h. (has_at pool q.tokens s here u).0 (subst (λ (o : Option ℕ). MatchOption o (HasAt pool q.tokens u) (λ z. CanBeginWith g z u)) next h)),
    )

pub ask_gains : (g : FlatGrammar) (pool : List BitSet) (q : Part) (at x : ℕ) (s : BitSet) (a b : List BitSet) → Some x ≡ slice_get (right_of g (line_of q.line)) at → at ≡ q.dot → ((u : ℕ) → Has s u ↔ CanFollow g pool q u) → GainsTokens (λ y u. (y ≡ x) × Has s u) a b → GainsTokens (AskedBy g pool q) a b
ask_gains g pool q at x s a b is place follows gains =
    let here : slice_get (right_of g (line_of q.line)) q.dot ≡ Some x = ap (λ (k : ℕ). slice_get (right_of g (line_of q.line)) k) (sym place) ∙ sym is in
    gains_same (λ y u. (y ≡ x) × Has s u) (AskedBy g pool q) a b gains
    (λ y u h. record { before = here ∙ ap Some (sym h.0); follows = (follows u).0 h.1 })
    (λ y u h. ((let e : Some y ≡ Some x = sym h.before ∙ here in cc), (follows u).1 h.follows))

pub ask_none : (g : FlatGrammar) (pool : List BitSet) (q : Part) (at : ℕ) (a : List BitSet) → ◌≡◌ {A = Option ℕ} None (slice_get (right_of g (line_of q.line)) at) → at ≡ q.dot → GainsTokens (AskedBy g pool q) a a
ask_none g pool q at a is place = gains_none (AskedBy g pool q) a (λ y u h. absurd (let e : ◌≡◌ {A = Option ℕ} None (Some y) = is ∙ ap (λ (k : ℕ). slice_get (right_of g (line_of q.line)) k) place ∙ h.before in cc))

pub tells_queued : (old new : List BitSet) (q r : List ℕ) → ((y t : ℕ) → HasAt old y t → ⊥) → q ≡ [] → length new ≡ length old → QueuesGains old new q r → Queued new r
tells_queued old new q r none empty size tells = record {
  inside = λ y h. (let lt = tells.inside y (in_more y h) in omega (arith, lt, size));
  begun = λ y t h. ⊎_elim (λ w. subst (λ (l : List ℕ). Contains l y) (sym whole) w) (λ s. absurd (none y t (s t h))) (tells.told y);
}
  where
    whole : r ≡ tells.more
    whole = tells.is ∙ ap (λ (l : List ℕ). l ++ tells.more) empty

    in_more : (y : ℕ) → Contains r y → Contains tells.more y
    in_more y h = subst (λ (l : List ℕ). Contains l y) whole h

-- a dot before a symbol has room for one step more
dot_short : (g : FlatGrammar) (t : Tables) (line k x : ℕ) → IsTables g t → line ≤ length t.productions.items → slice_get (right_of g (line_of line)) k ≡ Some x → k + 1 < 2 ^ 16
dot_short g t zero zero x tables below at = omega arith
dot_short g t zero (suc k) x tables below at = absurd (none_at_nil k x at)
dot_short g t (suc n) k x tables below at =
    let ps = t.productions.items in
    let p = some_at ps n (omega (arith, below)) in
    let pa = plain_at g ps n p.0 tables.plain p.1 in
    let short = (tables.inside p.0 (there ps n p.0 p.1)).short in
    let w = slice_get_within p.0.right.items k x (ap (λ (l : List ℕ). slice_get l k) (sym pa.right) ∙ at) in
    omega (arith, short, w)

-- the symbols of a line are of the grammar, and a dot before one has room for one step more
module _ (g : FlatGrammar) (t : Tables) (line k : ℕ) (right : List ℕ) (tables : IsTables g t) (below : line ≤ length t.productions.items) (is : right ≡ right_of g (line_of line)) (inside : k < length right) where
  at : (d : ℕ) → slice_get (right_of g (line_of line)) k ≡ Some (get_or right k d)
  at d = ap (λ (l : List ℕ). slice_get l k) (sym is) ∙ slice_get-get_or right k d inside

  pub symbol_inside : (d : ℕ) → get_or right k d < length t.firsts.items
  symbol_inside d = let lt = right_inside g t line k (get_or right k d) tables below (at d) in let size = tables.firsts.count in omega (arith, lt, size)

  pub symbol_short : k + 1 < 2 ^ 16
  symbol_short = dot_short g t line k (get_or right k 0) tables below (at 0)

pub move_puts : (g : FlatGrammar) (q past : Part) (at from symbol : ℕ) (a b : List (Vec Part)) → Some symbol ≡ slice_get (right_of g (line_of q.line)) at → at ≡ q.dot → from ≡ symbol → past ≡ record q { dot = q.dot + 1 } → Puts (λ y x. (y ≡ from) × (x ≡ past)) a b
    → Puts (MovesTo g q) a b
move_puts g q past at from symbol a b is place same one puts =
    let here : slice_get (right_of g (line_of q.line)) q.dot ≡ Some symbol = ap (λ (k : ℕ). slice_get (right_of g (line_of q.line)) k) (sym place) ∙ sym is in
    puts_same (λ y x. (y ≡ from) × (x ≡ past)) (MovesTo g q) a b puts
    (λ y x h. (here ∙ ap Some (sym (h.0 ∙ same)), h.1 ∙ one))
    (λ y x h. ((let e : Some y ≡ Some symbol = sym h.0 ∙ here in let f : y ≡ symbol = cc in f ∙ sym same), h.1 ∙ sym one))

pub move_none : (g : FlatGrammar) (q : Part) (at : ℕ) (a : List (Vec Part)) → ◌≡◌ {A = Option ℕ} None (slice_get (right_of g (line_of q.line)) at) → at ≡ q.dot → Puts (MovesTo g q) a a
move_none g q at a is place = puts_none (MovesTo g q) a (λ y x h. absurd (let e : ◌≡◌ {A = Option ℕ} None (Some y) = is ∙ ap (λ (k : ℕ). slice_get (right_of g (line_of q.line)) k) place ∙ h.0 in cc))

pub are_moved : (g : FlatGrammar) (parts : List Part) (len : ℕ) (items now new : List (Vec Part)) → now ≡ items → length now ≡ len → length new ≡ length now → ((y : ℕ) (x : Part) → RowHas items y x → ⊥) → Puts (FromOne (MovesTo g) parts) now new
    → AreMoved g parts (take len (new ++ drop (length new) items))
are_moved g parts len items now new same size count none puts =
    subst (AreMoved g parts) (sym (written items now new len same size count))
    (λ y x. ((λ h. ⊎_elim (λ w. absurd (none y x (subst (λ (l : List (Vec Part)). RowHas l y x) same w))) (λ w. w) ((puts.members y x).0 h)), (λ h. (puts.members y x).1 (inr h))))

pub moved_count : (len count : ℕ) (items now new : List (Vec Part)) → now ≡ items → length now ≡ len → length new ≡ length now → length items ≡ count → length (take len (new ++ drop (length new) items)) ≡ count
moved_count len count items now new same size kept all =
    let e = ap (λ (l : List (Vec Part)). length l) same in
    let f = ap (λ (l : List (Vec Part)). length l) (written items now new len same size kept) in
    omega (arith, e, f, kept, all)
