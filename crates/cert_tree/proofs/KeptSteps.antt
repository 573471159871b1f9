-- What is kept while the members of an object are read, member by member.
use Rattle.std.proofs.Common.{◌≡◌, ◌≢◌, ℕ, List, [], IsUtf8, Result, Err, Bool, true, false, bytes_eq, Option, Some, None, if◌then◌else◌, refl, sym, ap, ◌∙◌}
use Rattle.std.specs.Prelude.{codes, option_and_then, ok_or, is_some, not, ◌||◌}
use Rattle.std.proofs.lemmas.Bool.{false≢true}
use Rattle.std.proofs.lemmas.Slice.Eq.{bytes_eq-Decides}
use Rattle.contract_words.specs.Faults.{◌>>=◌, refuse}
use Rattle.json.specs.Token.{Token}
use Rattle.json.specs.Lex.{tokens}
use Rattle.json.specs.Json.{parse_map}
use Rattle.serde_json.specs.Data.{Data, null, boolean, number, string, array, object, Members, no_members, put}
use Rattle.serde_json.specs.Find.{get, get_member, as_object}
use Rattle.serde_json.proofs.Views.{get_member-put, get_member-put_other}
use Rattle.json_input.specs.Shape.{text_of, number_of, has_only, are_among}
use Rattle.json_tokens.specs.Standing.{value_at}
use Rattle.json_tokens.proofs.Standing.{read_some}
use Rattle.json_tokens.proofs.Whole.{text-means, text-followed, text-malformed}
use Rattle.json_tokens.proofs.Members.{only-put}
use Rattle.res_value.specs.ResId.{id_of}
use Rattle.config_box.specs.config_record.locales.declared.locale_rule.LocaleRule.{LocaleRule}
use Rattle.cert_tree.specs.declared.cert_fault.CertFault.{CertFault}
use Rattle.cert_tree.specs.declared.cert_fault.CertFault.TheVariants.{Syntax, Shape, Version}
use Rattle.cert_tree.specs.Certificate.{GoalOf}
use Rattle.cert_tree.specs.KeptCert.{GoalsOf, CertMembersOf, goals_in_both, cert_names, cert_members, no_cert_members, with_cert_member, is_number, goals_of_members}
use Rattle.cert_tree.specs.declared.goal_members.GoalPlace.{GoalPlace}
use Rattle.cert_tree.specs.CertJson.{id_at, id_item, styles_in, nodes_in, goals_in, is_version, goals_in_value, cert_in_by}
use Rattle.cert_tree.specs.KeptGoals.{goal_members, no_goal_members, with_member, shape_at, id_names, attr_names}

-- What is told of the member of a name, where one member more is read.
member-put : {Y : Type 0} (told : Option Data → Y) (key name : List ℕ) (d : Data) (ms : Members)
    → (if bytes_eq name key then told (Some d) else told (get_member key ms)) ≡ told (get_member key (put name d ms))
member-put {Y} told key name d ms = by (bytes_eq name key) refl
  where
    by : (b : Bool) → bytes_eq name key ≡ b → (if b then told (Some d) else told (get_member key ms)) ≡ told (get_member key (put name d ms))
    by true is =
        let same : name ≡ key = (bytes_eq-Decides name key).0 is in
        ap told (sym (get_member-put key d ms)) ∙ ap (λ n. told (get_member key (put n d ms))) (sym same)
    by false is =
        ap told (sym (get_member-put_other key name d ms (λ same. false≢true (sym is ∙ (bytes_eq-Decides name key).1 (sym same)))))

-- ---- a goal

pub goal_members-put : (at : GoalPlace) (name : List ℕ) (d : Data) (ms : Members) → with_member at name d (goal_members at (object ms)) ≡ goal_members at (object (put name d ms))
unfolding with_member goal_members id_at id_item has_only
goal_members-put at name d ms = λ i. record {
  of_id = only-put id_names name d ms _ _ refl refl i;
  of_attr = only-put attr_names name d ms _ _ refl refl i;
  id = member-put (λ o. ok_or (option_and_then id_of (option_and_then text_of o)) (shape_at at)) (codes "id") name d ms i;
  attr = member-put (λ o. ok_or (option_and_then id_of (option_and_then text_of o)) (shape_at at)) (codes "attr") name d ms i;
  styles = member-put (λ o. ok_or o (shape_at at) >>= styles_in (shape_at at)) (codes "styles") name d ms i;
  nodes = member-put (λ o. ok_or o (shape_at at) >>= nodes_in at.rule at.goal at.nodes_before) (codes "nodes") name d ms i;
}

pub goal_members-none : (at : GoalPlace) → no_goal_members true (shape_at at) ≡ goal_members at (object no_members)
unfolding goal_members id_at has_only are_among
goal_members-none at = refl

pub goal_members-other : (at : GoalPlace) (d : Data) → as_object d ≡ None → goal_members at d ≡ no_goal_members false (shape_at at)
unfolding goal_members id_at has_only
goal_members-other at null e = refl
goal_members-other at (boolean b) e = refl
goal_members-other at (number n) e = refl
goal_members-other at (string s) e = refl
goal_members-other at (array items) e = refl
goal_members-other at (object ms) e = absurd (cc)

-- ---- a certificate

abbrev goals_told : LocaleRule → Option Data → GoalsOf
goals_told rule o = record {
  in_version_1 = ok_or o (Shape 0 0) >>= goals_in rule false;
  in_version_2 = ok_or o (Shape 0 0) >>= goals_in rule true;
}

abbrev version_in : Data → Option ℕ
version_in value = option_and_then number_of (get (codes "version") value)

pub cert_members-put : (rule : LocaleRule) (name : List ℕ) (d : Data) (ms : Members) → with_cert_member rule name d (cert_members rule (object ms)) ≡ cert_members rule (object (put name d ms))
unfolding with_cert_member cert_members goals_in_both has_only
cert_members-put rule name d ms = λ i. record {
  is_object = true;
  only = only-put cert_names name d ms _ _ refl refl i;
  version = member-put (option_and_then number_of) (codes "version") name d ms i;
  goals = member-put (goals_told rule) (codes "goals") name d ms i;
}

pub cert_members-none : (rule : LocaleRule) → no_cert_members true ≡ cert_members rule (object no_members)
unfolding cert_members has_only are_among
cert_members-none rule = refl

pub cert_members-other : (rule : LocaleRule) (d : Data) → as_object d ≡ None → cert_members rule d ≡ no_cert_members false
unfolding cert_members has_only
cert_members-other rule null e = refl
cert_members-other rule (boolean b) e = refl
cert_members-other rule (number n) e = refl
cert_members-other rule (string s) e = refl
cert_members-other rule (array items) e = refl
cert_members-other rule (object ms) e = absurd (cc)

-- what a certificate means by its members
pub goals_of_members-is : (rule : LocaleRule) (value : Data) → goals_of_members (cert_members rule value) ≡ goals_in_value rule value
unfolding goals_of_members cert_members goals_in_value is_version
goals_of_members-is rule value =
    ap (λ (goals : Result (List GoalOf) CertFault). refuse (not (is_some (as_object value))) (Shape 0 0) >>= λ _. refuse (not (is_number 1 (version_in value) || is_number 2 (version_in value))) Version >>= λ _. refuse (not (has_only cert_names value)) (Shape 0 0) >>= λ _. goals)
    (by (is_number 2 (version_in value)))
  where
    by : (b : Bool) → (if b then (ok_or (get (codes "goals") value) (Shape 0 0) >>= goals_in rule true) else (ok_or (get (codes "goals") value) (Shape 0 0) >>= goals_in rule false)) ≡ (ok_or (get (codes "goals") value) (Shape 0 0) >>= goals_in rule b)
    by true = refl
    by false = refl

members-read : (rule : LocaleRule) (o : Option (Data × List Token)) (members : CertMembersOf) (r : List Token) → parse_map (cert_members rule) o ≡ Some (members, r) → parse_map (goals_in_value rule) o ≡ Some (goals_of_members members, r)
members-read rule o members r e =
    let d = read_some (cert_members rule) o members r e in
    ap (parse_map (goals_in_value rule)) d.1 ∙ ap (λ goals. Some (goals, r)) (sym (goals_of_members-is rule d.0) ∙ ap goals_of_members d.2)

pub cert-read : (rule : LocaleRule) (json : List ℕ) (ts r : List Token) (members : CertMembersOf) → IsUtf8 json → ts ≡ tokens json → parse_map (cert_members rule) (value_at 127 ts) ≡ Some (members, r) → r ≡ []
    → cert_in_by rule json ≡ goals_of_members members
cert-read rule json ts r members text opened e over =
    text-means (goals_in_value rule) Syntax json (goals_of_members members) text
    (ap (λ ts. parse_map (goals_in_value rule) (value_at 127 ts)) (sym opened) ∙ members-read rule (value_at 127 ts) members r e ∙ ap (λ r. Some (goals_of_members members, r)) over)

pub cert-followed : (rule : LocaleRule) (json : List ℕ) (ts r : List Token) (members : CertMembersOf) → ts ≡ tokens json → parse_map (cert_members rule) (value_at 127 ts) ≡ Some (members, r) → r ≢ []
    → cert_in_by rule json ≡ Err Syntax
cert-followed rule json ts r members opened e more =
    text-followed (goals_in_value rule) Syntax json (goals_of_members members) r (ap (λ ts. parse_map (goals_in_value rule) (value_at 127 ts)) (sym opened) ∙ members-read rule (value_at 127 ts) members r e) more

pub cert-malformed : (rule : LocaleRule) (json : List ℕ) (ts : List Token) → ts ≡ tokens json → value_at 127 ts ≡ None → cert_in_by rule json ≡ Err Syntax
cert-malformed rule json ts opened e = text-malformed (goals_in_value rule) Syntax json (ap (value_at 127) (sym opened) ∙ e)
