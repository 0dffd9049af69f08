pub mod JoinsLaws
