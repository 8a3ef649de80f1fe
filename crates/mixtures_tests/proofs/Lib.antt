pub mod UnreadLaws
