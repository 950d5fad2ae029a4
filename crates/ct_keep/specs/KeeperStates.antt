-- What a keeper in memory holds, beside a script and a buffer for what is said.
use Rattle.std.specs.Prelude.{ℕ, ◌≡◌, ◌≤◌, List, [], Some, None, Vec, length, refl}
use Rattle.std.specs.Vec.{vec_len, vec_capacity}
use Rattle.std.specs.FinMap.{empty}
use Rattle.std.specs.Coded.{Coded, code_by, coded_ℕ, coded_list, coded×, prop_coded}
use denote.Struct.Codes.{also_coded}
use Rattle.std.specs.declared.alloc.Global.{Global}
use Rattle.ct_keep.specs.Content.{Content}
use Rattle.ct_keep.specs.Changes.{HoldsEntries}
use Rattle.ct_keep.specs.laws.Changes.{HoldsEntries-prop}
use Rattle.ct_keep.specs.KeeperViews.{KeeperView, Counts}
use Rattle.ct_keep.specs.Pairs.{content_code}
use Rattle.ct_keep.specs.InMemory.{in_memory}

pub record KeeperState : Type 0 where
  pub content : Content
  -- each of its entries is within the bounds
  pub entries : HoldsEntries content
  pub limit : ℕ
  pub counts : Counts
  -- what is left of the script
  pub left : List ℕ
  pub said : List ℕ
  -- how many bytes may be said in all
  pub said_room : ℕ
  pub say_faults : ℕ
  -- how often `hear` answered that the script ends
  pub ends : ℕ

abbrev pub no_counts : Counts
no_counts = record { texts = 0; rows = 0; rules = 0; fulls = 0; commits = 0 }

-- It holds nothing, nothing of this script was heard, and nothing was said.
pub record IsNew (script : List ℕ) (most room : ℕ) (k : KeeperState) : Type 0 where
  pub content : k.content ≡ empty
  pub limit : k.limit ≡ most
  pub counts : k.counts ≡ no_counts
  pub left : k.left ≡ script
  pub said : k.said ≡ []
  pub said_room : k.said_room ≡ room
  pub say_faults : k.say_faults ≡ 0
  pub ends : k.ends ≡ 0

abbrev pub mem_view : KeeperState → KeeperView
mem_view s = in_memory s.content s.limit s.counts (record { left = Some s.left; said = Some s.said; hearings = None; ends = s.ends; hear_faults = 0; say_faults = s.say_faults }) (Some s.said_room)

-- The script has been heard up to here, and what may be said has its room.
pub record IsRoomy (script : List ℕ) (heard : ℕ) (said : Vec ℕ Global) (said_room : ℕ) : Type 0 where
  pub within : heard ≤ length script
  pub short : vec_len said ≤ said_room
  pub room : said_room ≤ vec_capacity said

abbrev pub counts_code : Coded Counts
counts_code =
    code_by (ℕ × (ℕ × (ℕ × (ℕ × ℕ)))) (coded× coded_ℕ (coded× coded_ℕ (coded× coded_ℕ (coded× coded_ℕ coded_ℕ))))
    (λ c. (c.texts, (c.rows, (c.rules, (c.fulls, c.commits)))))
    (λ p. record { texts = p.0; rows = p.1.0; rules = p.1.1.0; fulls = p.1.1.1.0; commits = p.1.1.1.1 })
    (λ _. refl)

-- a content with the proof that each of its entries is within the bounds
abbrev Held : Type 0
Held = (m : Content) × HoldsEntries m

abbrev held_code : Coded Held
held_code = also_coded content_code (λ m. prop_coded (HoldsEntries-prop m))

abbrev pub keeper_state_code : Coded KeeperState
keeper_state_code =
    code_by (Held × (ℕ × (Counts × (List ℕ × (List ℕ × (ℕ × (ℕ × ℕ))))))) (coded× held_code (coded× coded_ℕ (coded× counts_code (coded× (coded_list coded_ℕ) (coded× (coded_list coded_ℕ) (coded× coded_ℕ (coded× coded_ℕ coded_ℕ)))))))
    (λ s. ((s.content, s.entries), (s.limit, (s.counts, (s.left, (s.said, (s.said_room, (s.say_faults, s.ends))))))))
    (λ p. record { content = p.0.0; entries = p.0.1; limit = p.1.0; counts = p.1.1.0; left = p.1.1.1.0; said = p.1.1.1.1.0; said_room = p.1.1.1.1.1.0; say_faults = p.1.1.1.1.1.1.0; ends = p.1.1.1.1.1.1.1 })
    (λ _. refl)
