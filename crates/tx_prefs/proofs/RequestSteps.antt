-- One request after the other.
use Rattle.std.proofs.Common.{◌≡◌, ◌==◌, ℕ, Bool, true, false, cond, List, [], ◌∷◌, ◌++◌, length, map, Option, Some, None, refl, sym, ap, ◌∙◌}
use Rattle.std.specs.Prelude.{◌&&◌, bytes_eq, codes}
use Rattle.std.specs.Option.{option_map, option_and_then}
use Rattle.ct_base.specs.Names.{is_spelling}
use Rattle.tx_prefs.specs.declared.kinds.PrefKind.{PrefKind}
use Rattle.tx_prefs.specs.declared.kinds.PrefKind.TheVariants.{Lexer, Stoplist, SectionGroup, IndexSet}
use Rattle.tx_prefs.specs.declared.requests.Request.{Request}
use Rattle.tx_prefs.specs.Requests.{asked, is_default, is_free, request, requests_from, with_request}
use Rattle.tx_prefs.specs.RequestWords.{first_request, named_request, read_word, two_word_kind}

-- the requests with this one, and those of the words behind it, where it is the first of its kind
abbrev onward : List Request → Request → List (List ℕ) → Option (List Request)
onward rs r rest = cond (is_free r.kind rs) (requests_from (rs ++ r ∷ []) rest) None

-- what is asked for is of the kind
asked_kind : (kind : PrefKind) (v : List ℕ) (r : Request) → asked kind v ≡ Some r → r.kind ≡ kind
asked_kind kind v r is = go (is_default kind v) (is_spelling v) is
  where
    of : (q : Request) → q.kind ≡ kind → Some q ≡ Some r → r.kind ≡ kind
    of q same is = let e : q ≡ r = cc in ap (λ (x : Request). x.kind) (sym e) ∙ same

    go : (a b : Bool) → cond a (Some (request kind None)) (cond b (Some (request kind (Some v))) None) ≡ Some r → r.kind ≡ kind
    go true b is = of (request kind None) refl is
    go false true is = of (request kind (Some v)) refl is
    go false false is = cc

parts_of : (o : Option Request) (ws : List (List ℕ)) (r : Request) (rest : List (List ℕ)) → option_map {U = Request × List (List ℕ)} (λ (q : Request). (q, ws)) o ≡ Some (r, rest) → (o ≡ Some r) × (ws ≡ rest)
parts_of None ws r rest is = cc
parts_of (Some q) ws r rest is =
    let e : ◌≡◌ {A = Request × List (List ℕ)} (q, ws) (r, rest) = cc in
    (ap (λ (p : Request × List (List ℕ)). Some p.0) e, ap (λ (p : Request × List (List ℕ)). p.1) e)

-- a request and then others
named : (rs : List Request) (kind : PrefKind) (v : List ℕ) (ws : List (List ℕ)) (r : Request) (rest : List (List ℕ)) → named_request kind (v ∷ ws) ≡ Some (r, rest)
    → option_and_then (λ more. requests_from more ws) (with_request kind (asked kind v) rs) ≡ onward rs r rest
named rs kind v ws r rest is =
    let p = parts_of (asked kind v) ws r rest is in
    let same = asked_kind kind v r p.0 in
    ap (λ (o : Option Request). option_and_then (λ more. requests_from more ws) (with_request kind o rs)) p.0
    ∙ ap (λ (k : PrefKind). option_and_then (λ more. requests_from more ws) (with_request k (Some r) rs)) (sym same)
    ∙ free (is_free r.kind rs)
    ∙ ap (λ (l : List (List ℕ)). onward rs r l) p.1
  where
    free : (b : Bool) → option_and_then (λ more. requests_from more ws) (cond b (Some (rs ++ r ∷ [])) None) ≡ cond b (requests_from (rs ++ r ∷ []) ws) None
    free true = refl
    free false = refl

-- the last request
last : (o : Option (List Request)) → o ≡ option_and_then (λ more. requests_from more []) o
last None = refl
last (Some rs) = refl

abbrev by_kind : Option (PrefKind × List (List ℕ)) → Option (Request × List (List ℕ))
by_kind o = option_and_then (λ (k : PrefKind × List (List ℕ)). named_request k.0 k.1) o

pub one_request : (rs : List Request) (ws : List (List ℕ)) (r : Request) (rest : List (List ℕ)) → first_request ws ≡ Some (r, rest) → requests_from rs ws ≡ onward rs r rest
one_request rs [] r rest is = cc
one_request rs (w ∷ []) r rest is = go (bytes_eq w (codes "lexer")) (bytes_eq w (codes "stoplist")) is
  where
    go : (a b : Bool) → by_kind (cond a (Some (Lexer, [])) (cond b (Some (Stoplist, [])) None)) ≡ Some (r, rest) → None ≡ onward rs r rest
    go true b is = cc
    go false true is = cc
    go false false is = cc
one_request rs (w ∷ v ∷ []) r rest is =
    go (bytes_eq w (codes "lexer")) (bytes_eq w (codes "stoplist")) (bytes_eq w (codes "section") && bytes_eq v (codes "group")) (bytes_eq w (codes "index") && bytes_eq v (codes "set")) is
  where
    go : (a b s i : Bool) → by_kind (cond a (Some (Lexer, v ∷ [])) (cond b (Some (Stoplist, v ∷ [])) (cond s (Some (SectionGroup, [])) (cond i (Some (IndexSet, [])) None)))) ≡ Some (r, rest)
        → cond a (with_request Lexer (asked Lexer v) rs) (cond b (with_request Stoplist (asked Stoplist v) rs) None) ≡ onward rs r rest
    go true b s i is = last (with_request Lexer (asked Lexer v) rs) ∙ named rs Lexer v [] r rest is
    go false true s i is = last (with_request Stoplist (asked Stoplist v) rs) ∙ named rs Stoplist v [] r rest is
    go false false true i is = cc
    go false false false true is = cc
    go false false false false is = cc
one_request rs (w ∷ v ∷ x ∷ ws) r rest is =
    go (bytes_eq w (codes "lexer")) (bytes_eq w (codes "stoplist")) (bytes_eq w (codes "section") && bytes_eq v (codes "group")) (bytes_eq w (codes "index") && bytes_eq v (codes "set")) is
  where
    go : (a b s i : Bool) → by_kind (cond a (Some (Lexer, v ∷ x ∷ ws)) (cond b (Some (Stoplist, v ∷ x ∷ ws)) (cond s (Some (SectionGroup, x ∷ ws)) (cond i (Some (IndexSet, x ∷ ws)) None)))) ≡ Some (r, rest)
        → cond a (option_and_then (λ more. requests_from more (x ∷ ws)) (with_request Lexer (asked Lexer v) rs))
        (cond b (option_and_then (λ more. requests_from more (x ∷ ws)) (with_request Stoplist (asked Stoplist v) rs))
        (cond s (option_and_then (λ more. requests_from more ws) (with_request SectionGroup (asked SectionGroup x) rs))
        (cond i (option_and_then (λ more. requests_from more ws) (with_request IndexSet (asked IndexSet x) rs)) None))) ≡ onward rs r rest
    go true b s i is = named rs Lexer v (x ∷ ws) r rest is
    go false true s i is = named rs Stoplist v (x ∷ ws) r rest is
    go false false true i is = named rs SectionGroup x ws r rest is
    go false false false true is = named rs IndexSet x ws r rest is
    go false false false false is = cc

-- ---- words that spell no request

-- where the word behind a kind is no name of it
unnamed : (rs : List Request) (kind : PrefKind) (v : List ℕ) (ws : List (List ℕ)) → named_request kind (v ∷ ws) ≡ None → with_request kind (asked kind v) rs ≡ None
unnamed rs kind v ws is = go (asked kind v) is
  where
    go : (o : Option Request) → option_map {U = Request × List (List ℕ)} (λ (q : Request). (q, ws)) o ≡ None → with_request kind o rs ≡ None
    go None is = refl
    go (Some q) is = cc

-- and so no request behind it is read
none_onward : (rs : List Request) (kind : PrefKind) (v : List ℕ) (ws : List (List ℕ)) → named_request kind (v ∷ ws) ≡ None
    → None ≡ option_and_then (λ more. requests_from more ws) (with_request kind (asked kind v) rs)
none_onward rs kind v ws is = sym (ap (option_and_then (λ more. requests_from more ws)) (unnamed rs kind v ws is))

no_request : (rs : List Request) (w : List ℕ) (ws : List (List ℕ)) → first_request (w ∷ ws) ≡ None → None ≡ requests_from rs (w ∷ ws)
no_request rs w [] is = refl
no_request rs w (v ∷ []) is = go (bytes_eq w (codes "lexer")) (bytes_eq w (codes "stoplist")) is
  where
    go : (a b : Bool) → by_kind (cond a (Some (Lexer, v ∷ [])) (cond b (Some (Stoplist, v ∷ [])) (two_word_kind w (v ∷ [])))) ≡ None
        → None ≡ cond a (with_request Lexer (asked Lexer v) rs) (cond b (with_request Stoplist (asked Stoplist v) rs) None)
    go true b is = sym (unnamed rs Lexer v [] is)
    go false true is = sym (unnamed rs Stoplist v [] is)
    go false false is = refl
no_request rs w (v ∷ x ∷ ws) is =
    go (bytes_eq w (codes "lexer")) (bytes_eq w (codes "stoplist")) (bytes_eq w (codes "section") && bytes_eq v (codes "group")) (bytes_eq w (codes "index") && bytes_eq v (codes "set")) is
  where
    go : (a b s i : Bool) → by_kind (cond a (Some (Lexer, v ∷ x ∷ ws)) (cond b (Some (Stoplist, v ∷ x ∷ ws)) (cond s (Some (SectionGroup, x ∷ ws)) (cond i (Some (IndexSet, x ∷ ws)) None)))) ≡ None
        → None ≡ cond a (option_and_then (λ more. requests_from more (x ∷ ws)) (with_request Lexer (asked Lexer v) rs))
        (cond b (option_and_then (λ more. requests_from more (x ∷ ws)) (with_request Stoplist (asked Stoplist v) rs))
        (cond s (option_and_then (λ more. requests_from more ws) (with_request SectionGroup (asked SectionGroup x) rs))
        (cond i (option_and_then (λ more. requests_from more ws) (with_request IndexSet (asked IndexSet x) rs)) None)))
    go true b s i is = none_onward rs Lexer v (x ∷ ws) is
    go false true s i is = none_onward rs Stoplist v (x ∷ ws) is
    go false false true i is = none_onward rs SectionGroup x ws is
    go false false false true is = none_onward rs IndexSet x ws is
    go false false false false is = refl

pub reads_none : (rs : List Request) (ws : List (List ℕ)) → (length ws == 0) ≡ false → first_request (map read_word ws) ≡ None → None ≡ requests_from rs (map read_word ws)
reads_none rs [] some is = cc
reads_none rs (w ∷ ws) some is = no_request rs (read_word w) (map read_word ws) is

module _ (rs : List Request) (ws : List (List ℕ)) (r : Request) (rest : List (List ℕ)) (is : first_request ws ≡ Some (r, rest)) where
  -- the first of its kind
  pub reads_on : is_free r.kind rs ≡ true → requests_from (rs ++ r ∷ []) rest ≡ requests_from rs ws
  reads_on free = sym (one_request rs ws r rest is ∙ ap (λ (b : Bool). cond b (requests_from (rs ++ r ∷ []) rest) None) free)

  -- a second one
  pub reads_twice : is_free r.kind rs ≡ false → None ≡ requests_from rs ws
  reads_twice there = sym (one_request rs ws r rest is ∙ ap (λ (b : Bool). cond b (requests_from (rs ++ r ∷ []) rest) None) there)
