-- Going down from a head, link by link, to find the one that ends at another.
use Rattle.std.proofs.Common.{◌≡◌, ◌∙◌, sym, ap, refl, subst, ℕ, ◌<◌, inl, inr, List, length, take, slice_get, Option, Some, None, arith}
use Rattle.std.proofs.lemmas.Option.{slice_get_within}
use Rattle.spec_graph.specs.declared.graph.Link.{Link}
use Rattle.ts_graph.specs.Down.{links_down, links_from, IsBetween, HasNone}
use Rattle.ts_graph.proofs.ListLemmas.{Has}
use Rattle.ts_graph.proofs.DownLemmas.{down_has, down_is}

-- all links from here on lead down from the head
pub record GoDown (links : List Link) (above : ℕ) (next : Option ℕ) : Type 0 where
  pub each : (k : ℕ) → Has (links_from links above next) k
      → (l : Link) × (slice_get links k ≡ Some l) × (l.above ≡ above)

pub go_first : (links : List Link) (above : ℕ) (next : Option ℕ) → links_from links above next ≡ links_down links above → GoDown links above next
go_first links above next is = record { each = λ k h. down_has links above k (subst (λ (ks : List ℕ). Has ks k) is h) }

pub go_at : (links : List Link) (above k : ℕ) → GoDown links above (Some k) → (l : Link) × (slice_get links k ≡ Some l) × (l.above ≡ above)
go_at links above k go = go.each k (inl refl)

pub go_within : (links : List Link) (above k : ℕ) → GoDown links above (Some k) → k < length links
go_within links above k go = let r = go_at links above k go in slice_get_within links k r.0 r.1

-- where one link tells of the next
module _ (links : List Link) (above k : ℕ) (next : Option ℕ) (l : Link) (go : GoDown links above (Some k)) (at : slice_get links k ≡ Some l)
    (goes : links_from links l.above next ≡ links_down (take k links) l.above) where
  pub go_above : l.above ≡ above
  go_above =
      let r = go_at links above k go in
      let e : Some l ≡ Some r.0 = sym at ∙ r.1 in
      let same : l ≡ r.0 = cc in
      ap (λ (m : Link). m.above) same ∙ r.2

  pub go_rest : links_from links above next ≡ links_down (take k links) above
  go_rest = subst (λ (n : ℕ). links_from links n next ≡ links_down (take k links) n) go_above goes

  pub go_next : GoDown links above next
  go_next = record { each = λ j h. go.each j (inr (subst (λ (ks : List ℕ). Has ks j) go_rest h)) }

  pub go_shorter : length (links_from links above next) < length (links_from links above (Some k))
  go_shorter = let e = ap (λ (ks : List ℕ). length ks) go_rest in omega arith

-- each link between the two heads is still ahead
pub record Seeks (links : List Link) (above below : ℕ) (next : Option ℕ) : Type 0 where
  pub go : GoDown links above next
  pub ahead : (k : ℕ) → IsBetween links above below k → Has (links_from links above next) k

pub seeks_first : (links : List Link) (above below : ℕ) (next : Option ℕ) → links_from links above next ≡ links_down links above → Seeks links above below next
seeks_first links above below next is = record {
  go = go_first links above next is;
  ahead = λ k b. subst (λ (ks : List ℕ). Has ks k) (sym is) (down_is links above k b.link b.at b.above_is);
}

pub seeks_none : (links : List Link) (above below : ℕ) → Seeks links above below None → HasNone links above below
seeks_none links above below s = λ k b. s.ahead k b

module _ (links : List Link) (above below k : ℕ) (l : Link) (s : Seeks links above below (Some k)) (at : slice_get links k ≡ Some l) where
  pub seeks_found : l.below ≡ below → IsBetween links above below k
  seeks_found is =
      let r = go_at links above k s.go in
      let e : Some l ≡ Some r.0 = sym at ∙ r.1 in
      let same : l ≡ r.0 = cc in
      record { link = l; at = at; above_is = ap (λ (m : Link). m.above) same ∙ r.2; below_is = is }

  pub seeks_next : (next : Option ℕ) → links_from links l.above next ≡ links_down (take k links) l.above → (l.below ≡ below → ⊥) → Seeks links above below next
  seeks_next next goes other = record {
    go = go_next links above k next l s.go at goes;
    ahead = λ j b. by j b (s.ahead j b);
  }
    where
      by : (j : ℕ) → IsBetween links above below j → Has (links_from links above (Some k)) j → Has (links_from links above next) j
      by j b (inl e) =
          absurd (let f : Some l ≡ Some b.link = sym at ∙ ap (λ (n : ℕ). slice_get links n) e ∙ b.at in
          let same : l ≡ b.link = cc in
          other (ap (λ (m : Link). m.below) same ∙ b.below_is))
      by j b (inr h) = subst (λ (ks : List ℕ). Has ks j) (sym (go_rest links above k next l s.go at goes)) h
