-- The stack of `Stacks` gives what counting gives.
use Rattle.std.proofs.Common.{◌≡◌, ◌+◌, ℕ, zero, suc, Bool, true, false, cond, List, [], ◌∷◌, ◌++◌, get_or, refl, sym, ap, ◌∙◌, arith, Option, Some}
use Rattle.std.specs.Prelude.{◌==◌, ◌&&◌, not, reverse}
use Rattle.std.proofs.lemmas.Bool.{eq-eqb, eqb-true}
use Rattle.std.proofs.lemmas.List.{append-nil}
use Rattle.tx_tags.specs.declared.tags.TagView.{TagView}
use Rattle.tx_tags.specs.declared.pairing.Pairing.{Pairing}
use Rattle.tx_tags.specs.Pairs.{closer, stop_at, opened_by, span, spans}
use Rattle.tx_tags.specs.Stacks.{behind_first, waiting_with, waiting, opened_with, IsPairing, Takes}

-- ---- the waiting tag that stands behind as many others as are open is the one that closes

behind-get : (cs : List ℕ) (d end : ℕ) → get_or (behind_first cs) d end ≡ get_or cs (suc d) end
behind-get [] d end = refl
behind-get (c ∷ cs) d end = refl

now-step : (named closing : Bool) (end : ℕ) (t : TagView) (opening other : Option TagView) (cs : List ℕ) → stop_at end opening ≡ get_or cs 1 end → stop_at end other ≡ get_or cs 0 end
    → stop_at end (cond named (cond closing (Some t) opening) other) ≡ get_or (cond named (cond closing (t.start ∷ cs) (behind_first cs)) cs) 0 end
now-step true true end t opening other cs o r = refl
now-step true false end t opening other cs o r = o ∙ sym (behind-get cs 0 end)
now-step false closing end t opening other cs o r = r

later-step : (named closing : Bool) (d end : ℕ) (t : TagView) (later opening other : Option TagView) (cs : List ℕ) → stop_at end later ≡ get_or cs d end
    → stop_at end opening ≡ get_or cs (suc (suc d)) end → stop_at end other ≡ get_or cs (suc d) end
    → stop_at end (cond named (cond closing later opening) other) ≡ get_or (cond named (cond closing (t.start ∷ cs) (behind_first cs)) cs) (suc d) end
later-step true true d end t later opening other cs l o r = l
later-step true false d end t later opening other cs l o r = o ∙ sym (behind-get cs (suc d) end)
later-step false closing d end t later opening other cs l o r = r

other-number : (a b d : ℕ) → a ≡ b + suc d → (a == b) ≡ false
other-number a b d h = differ (a == b) refl
  where
    differ : (t : Bool) → (a == b) ≡ t → t ≡ false
    differ true e = absurd (omega (arith, eqb-true a b e, h))
    differ false e = refl

pub closer-waits : (k end opened closed d : ℕ) (ts : List TagView) → opened ≡ closed + d → stop_at end (closer k opened closed ts) ≡ get_or (waiting k ts) d end
closer-waits k end a b d [] h = refl
closer-waits k end a b zero (t ∷ ts) h =
    rw (eq-eqb a b (omega arith)) (now-step (t.tag == k) t.closing end t _ _ (waiting k ts)
    (closer-waits k end (a + 1) b 1 ts (omega arith)) (closer-waits k end a b 0 ts h))
closer-waits k end a b (suc d) (t ∷ ts) h =
    rw (other-number a b d h) (later-step (t.tag == k) t.closing d end t _ _ _ (waiting k ts)
    (closer-waits k end a (b + 1) d ts (omega arith)) (closer-waits k end (a + 1) b (suc (suc d)) ts (omega arith)) (closer-waits k end a b (suc d) ts h))

opened-step : (named closing : Bool) (end : ℕ) (t : TagView) (c : Option TagView) (cs : List ℕ) → stop_at end c ≡ get_or cs 0 end
    → cond (named && not closing) (span t.end (stop_at end c) ∷ []) [] ≡ cond named (cond closing [] (span t.end (get_or cs 0 end) ∷ [])) []
opened-step true true end t c cs h = refl
opened-step true false end t c cs h = ap (λ n. span t.end n ∷ []) h
opened-step false closing end t c cs h = refl

pub opened-waits : (k end : ℕ) (t : TagView) (ts : List TagView) → opened_by k end t ts ≡ cond (t.tag == k) (opened_with end t (waiting k ts)) []
opened-waits k end t ts = opened-step (t.tag == k) t.closing end t (closer k 0 0 ts) (waiting k ts) (closer-waits k end 0 0 0 ts refl)

-- ---- one tag more, from the end

pub takes_tag : (k end : ℕ) (t : TagView) (ts : List TagView) (old new : Pairing) → t.tag ≡ k → Takes end t old new → IsPairing k end ts old → IsPairing k end (t ∷ ts) new
takes_tag k end t ts old new is by so_far =
    let named = eq-eqb t.tag k is in
    record {
      waiting = rw named (by.waiting ∙ ap (waiting_with t) so_far.waiting);
      spans = by.spans ∙ ap (λ l. l ++ opened_with end t (reverse old.waiting.items)) so_far.spans ∙ ap (λ w. spans k end ts ++ opened_with end t w) so_far.waiting
          ∙ ap (λ o. spans k end ts ++ o) (sym (opened-waits k end t ts ∙ ap (λ (b : Bool). cond b (opened_with end t (waiting k ts)) []) named));
    }

pub passes_tag : (k end : ℕ) (t : TagView) (ts : List TagView) (p : Pairing) → (t.tag == k) ≡ false → IsPairing k end ts p → IsPairing k end (t ∷ ts) p
passes_tag k end t ts p not so_far = record {
  waiting = so_far.waiting ∙ ap (λ (b : Bool). cond b (waiting_with t (waiting k ts)) (waiting k ts)) (sym not);
  spans = so_far.spans ∙ sym (append-nil (spans k end ts)) ∙ ap (λ o. spans k end ts ++ o) (sym (opened-waits k end t ts ∙ ap (λ (b : Bool). cond b (opened_with end t (waiting k ts)) []) not));
}
