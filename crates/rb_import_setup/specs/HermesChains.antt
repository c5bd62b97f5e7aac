-- The chains of a configuration of Hermes, as a setup takes them.
use Rattle.std.specs.Prelude.{ℕ, List, Option, option_map, string_bytes}
use Rattle.rb_import_setup.specs.declared.hermes_chain.Chain.{Chain}

-- a chain: its identifier, the address of its node where that is a word, the gas limit and the most messages of a transaction, and the price of gas
-- in millionths of its coin, 0 where there is none
pub record HermesChain : Type 0 where
  pub id : List ℕ
  pub address : Option (List ℕ)
  pub max_gas : ℕ
  pub max_messages : ℕ
  pub price : ℕ

abbrev pub chain_view : Chain → HermesChain
chain_view c = record {
  id = c.id;
  address = option_map string_bytes c.address;
  max_gas = c.max_gas;
  max_messages = c.max_messages;
  price = c.price;
}
