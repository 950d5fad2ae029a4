-- What stands behind a tag, and with it.
use Rattle.std.proofs.Common.{◌≡◌, ℕ, ◌+◌, ◌<◌, ◌≤◌, Bool, true, false, List, [], ◌∷◌, length, drop, drop-cons, add-one, get_or, Option, Some, None, refl, sym, ap, ◌∙◌, subst, arith}
use Rattle.tx_settings.specs.PrefsBytes.{IsSpeltAt, NoneStands, Reads, Stands, always}
use Rattle.tx_settings.specs.laws.Standing.{begins_at, first_at, joined_at, same_at, second_at}
use Rattle.q_stored.specs.Reading.{BodyStands, ReadsBody, byte_spelling, order_spelling}
use Rattle.q_stored.specs.QueryBytes.{order_byte}
use Rattle.q_stored.specs.laws.Apart.{byte_apart}

-- ---- one byte

next_byte : (bytes : List ℕ) (at d : ℕ) → at < length bytes → drop at bytes ≡ get_or bytes at d ∷ drop (at + 1) bytes
next_byte bytes at d less = drop-cons bytes at d less ∙ ap (λ n. get_or bytes at d ∷ drop n bytes) (sym (add-one at))

pub byte_stands : (bytes : List ℕ) (at byte : ℕ) → at < length bytes → byte ≡ get_or bytes at 0 → Stands always byte_spelling bytes at byte (at + 1)
byte_stands bytes at byte less is = record {
  rules = refl;
  spelt = begins_at bytes at (byte ∷ []) (drop (at + 1) bytes) (omega (arith, less)) (next_byte bytes at 0 less ∙ ap (λ (b : ℕ). b ∷ drop (at + 1) bytes) (sym is));
}

pub no_byte : (bytes : List ℕ) (at : ℕ) → length bytes ≤ at → NoneStands always byte_spelling bytes at
no_byte bytes at short b next stands = let a = stands.spelt.next_is in let w = stands.spelt.within in omega (arith, short, a, w)

-- ---- whether operands are ordered

order_at : (bytes : List ℕ) (at : ℕ) (b : Bool) (next : ℕ) → Stands always order_spelling bytes at b next → get_or bytes at 0 ≡ order_byte b
order_at bytes at b next stands =
    let less : at < length bytes = (let a = stands.spelt.next_is in let w = stands.spelt.within in omega (arith, a, w)) in
    let e = sym (next_byte bytes at 0 less) ∙ stands.spelt.spelt in
    cc

order_small : (b : Bool) → order_byte b ≤ 1
order_small true = omega arith
order_small false = omega arith

pub no_order : (bytes : List ℕ) (at byte : ℕ) → byte ≡ get_or bytes at 0 → 1 < byte → NoneStands always order_spelling bytes at
no_order bytes at byte is large b next stands =
    let e = order_at bytes at b next stands in
    let most = order_small b in
    absurd (omega (arith, is, large, e, most))

pub no_order_byte : (bytes : List ℕ) (at : ℕ) → length bytes ≤ at → NoneStands always order_spelling bytes at
no_order_byte bytes at short b next stands = let a = stands.spelt.next_is in let w = stands.spelt.within in omega (arith, short, a, w)

pub order_stands : (bytes : List ℕ) (at byte : ℕ) (b : Bool) → at < length bytes → byte ≡ get_or bytes at 0 → order_byte b ≡ byte → Stands always order_spelling bytes at b (at + 1)
order_stands bytes at byte b less is tie = record {
  rules = refl;
  spelt = begins_at bytes at (order_byte b ∷ []) (drop (at + 1) bytes) (omega (arith, less)) (next_byte bytes at 0 less ∙ ap (λ (x : ℕ). x ∷ drop (at + 1) bytes) (sym (tie ∙ is)));
}

-- ---- a tag and what follows it

module _ {X : Type 0} (rule : X → Bool) (tag : X → ℕ) (body : X → List ℕ) (bytes : List ℕ) (at : ℕ) where
  pub tagged_stands : (t mid : ℕ) → Stands always byte_spelling bytes at t mid → (x : X) (next : ℕ) → BodyStands rule tag body t bytes mid x next → Stands rule (λ (x : X). tag x ∷ body x) bytes at x next
  tagged_stands t mid first x next b = record {
    rules = b.rules;
    spelt = subst (λ (n : ℕ). IsSpeltAt bytes at (n ∷ body x) next) (sym b.tagged) (joined_at bytes at (t ∷ []) mid (body x) next first.spelt b.spelt);
  }

  pub untagged : (t mid : ℕ) → Stands always byte_spelling bytes at t mid → ((x : X) (next : ℕ) → BodyStands rule tag body t bytes mid x next → ⊥) → NoneStands rule (λ (x : X). tag x ∷ body x) bytes at
  untagged t mid first none x next stands =
      let head = first_at bytes at (tag x ∷ []) (body x) next stands.spelt in
      let rest = second_at bytes at (tag x ∷ []) (body x) next stands.spelt in
      let same = same_at byte_spelling byte_apart bytes at t mid (tag x) (at + 1) first.spelt head in
      none x next (record { rules = stands.rules; tagged = sym same.0; spelt = subst (λ (n : ℕ). IsSpeltAt bytes n (body x) next) (sym same.1) rest })

  pub tagged_reads : (t mid : ℕ) → Stands always byte_spelling bytes at t mid → (found : Option (X × ℕ)) → ReadsBody rule tag body t bytes mid found → Reads rule (λ (x : X). tag x ∷ body x) bytes at found
  tagged_reads t mid first None h = untagged t mid first h
  tagged_reads t mid first (Some r) h = tagged_stands t mid first r.0 r.1 h

  pub no_tag : NoneStands always byte_spelling bytes at → NoneStands rule (λ (x : X). tag x ∷ body x) bytes at
  no_tag none x next stands = none (tag x) (at + 1) (record { rules = refl; spelt = first_at bytes at (tag x ∷ []) (body x) next stands.spelt })
