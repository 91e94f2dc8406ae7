-- What a measure is, and the laws that it must show.
use Rattle.std.specs.Prelude.{◌≡◌, ℕ, ◌<◌, ◌≤◌}

-- the values of a measure are the v of V with `has v`
pub record Means (V : Type 0) : Type 1 where
  pub has : V → Type 0
  pub zero : V
  pub one : V
  pub join : V → V → V
  pub chain : V → V → V
  pub worth : ℕ → ℕ → V

pub record Laws {V : Type 0} (m : Means V) : Type 0 where
  pub has_zero : m.has m.zero
  pub has_one : m.has m.one
  pub has_join : (a b : V) → m.has a → m.has b → m.has (m.join a b)
  pub has_chain : (a b : V) → m.has a → m.has b → m.has (m.chain a b)
  pub has_worth : (price count : ℕ) → price ≤ 1000 → count < 64 → m.has (m.worth price count)
  pub join_assoc : (a b c : V) → m.has a → m.has b → m.has c → m.join (m.join a b) c ≡ m.join a (m.join b c)
  pub join_comm : (a b : V) → m.has a → m.has b → m.join a b ≡ m.join b a
  pub join_zero : (a : V) → m.has a → m.join a m.zero ≡ a
  pub chain_assoc : (a b c : V) → m.has a → m.has b → m.has c → m.chain (m.chain a b) c ≡ m.chain a (m.chain b c)
  pub one_chain : (a : V) → m.has a → m.chain m.one a ≡ a
  pub chain_one : (a : V) → m.has a → m.chain a m.one ≡ a
  pub zero_chain : (a : V) → m.has a → m.chain m.zero a ≡ m.zero
  pub chain_zero : (a : V) → m.has a → m.chain a m.zero ≡ m.zero
  pub chain_join : (a b c : V) → m.has a → m.has b → m.has c → m.chain a (m.join b c) ≡ m.join (m.chain a b) (m.chain a c)
  pub join_chain : (a b c : V) → m.has a → m.has b → m.has c → m.chain (m.join a b) c ≡ m.join (m.chain a c) (m.chain b c)
