-- How clients are named.
use Rattle.std.specs.Prelude.{◌≡◌, ◌≢◌, ℕ, List, ◌++◌, codes}
use Rattle.rb_base.specs.Identifier.{IsIdentifier}
use Rattle.rb_import_setup.specs.declared.hermes_client.NamedClient.{NamedClient}

-- a client as a command line names it
abbrev pub word_of : NamedClient → List ℕ
word_of c = c.host ++ codes ":" ++ c.id ++ codes ":" ++ c.chain

-- a word is the name of a client, whose chains are two
pub record Names (word : List ℕ) (c : NamedClient) : Type 0 where
  pub is : word ≡ word_of c
  pub host : IsIdentifier c.host
  pub id : IsIdentifier c.id
  pub chain : IsIdentifier c.chain
  pub differ : c.host ≢ c.chain

-- a client's identifier in a setup, in which identifiers of several hosts stand beside each other
abbrev pub setup_id : NamedClient → List ℕ
setup_id c = c.host ++ (codes "." ++ c.id)
